use Rattle.std.proofs.Common.{◌≡◌, ◌∙◌, ◌+◌, ◌<◌, ◌^◌, true, length, ap, sym}
use Rattle.std.proofs.lemmas.Result.{IfOk-weaker}
use Rattle.md_write.specs.Written.{section_at, section_bytes, file_of, is_addressable}
use Rattle.md_write.proofs.Opened.{small_file}
use Rattle.md_write.proofs.write.file.Goals as goal

pub returns-clause-small : goal.returns-clause-small
returns-clause-small c =
    let section = c.args.section.now in
    let few : is_addressable (length (section_bytes section)) ≡ true =
    ap is_addressable (sym (c.len.ensures ∙ ap length c.in_ok-bytes.ensures))
    ∙ sym (c.if-not-is_addressable.ensures {u = tt}) in
    IfOk-weaker c.file_with.result (λ file. file ≡ file_of section) (λ file. section_at + length file < 2 ^ 32)
    (λ file same. small_file section file few same) c.file_with.ensures
