use Rattle.std.proofs.Common.{sym, ap, ◌∙◌, rules}
use Rattle.std.proofs.lemmas.Result.{on_ok_weaker, on_err_weaker}
use Rattle.ilc_io.specs.Mem.{files_of}
use Rattle.ilc_io.specs.Store.{stored}
use Rattle.ilc_io.proofs.TextMap.{files_of-updates, get-files_of, appended-some, appended-none, stored-same}
use Rattle.ilc_io.proofs.mem_files.add.Goals as goal

pub returns-in-Some-clause-ok : goal.returns-in-Some-clause-ok
returns-in-Some-clause-ok c =
    let has = get-files_of c.args.files.now c.args.name.now ∙ sym c.in-Some.ensures.value in
    on_ok_weaker c.extend_from_slice.result
    (λ added.
    files_of-updates c.args.files.now (c.get_mut.follows.lender c.extend_from_slice.new.self) c.args.name.now
    c.extend_from_slice.new.self ((c.get_mut.follows.holds c.extend_from_slice.new.self).3 (search rules))
    ∙ ap (λ bytes. stored c.args.name.now bytes (files_of c.args.files.now)) added
    ∙ appended-some c.args.name.now c.in-Some.content.now c.args.piece.now (files_of c.args.files.now) has)
    c.extend_from_slice.ensures.ok

pub returns-in-Some-clause-err : goal.returns-in-Some-clause-err
returns-in-Some-clause-err c =
    let has = get-files_of c.args.files.now c.args.name.now ∙ sym c.in-Some.ensures.value in
    on_err_weaker c.extend_from_slice.result
    (λ same.
    files_of-updates c.args.files.now (c.get_mut.follows.lender c.extend_from_slice.new.self) c.args.name.now
    c.extend_from_slice.new.self ((c.get_mut.follows.holds c.extend_from_slice.new.self).3 (search rules))
    ∙ ap (λ bytes. stored c.args.name.now bytes (files_of c.args.files.now)) same
    ∙ stored-same c.args.name.now c.in-Some.content.now (files_of c.args.files.now) has)
    c.extend_from_slice.ensures.err

pub returns-in-None-clause-ok : goal.returns-in-None-clause-ok
returns-in-None-clause-ok c =
    let none = get-files_of c.args.files.now c.args.name.now ∙ sym c.in-None.ensures.value in
    on_ok_weaker c.store.result
    (λ is.
    is ∙ ap (λ files. stored c.args.name.now c.args.piece.now (files_of files)) c.get_mut.follows.holds-at-none
    ∙ appended-none c.args.name.now c.args.piece.now (files_of c.args.files.now) none)
    c.store.ensures.ok
