use Rattle.std.proofs.Common.{◌≡◌, ◌∙◌, ℕ, List, length, All, Result, Ok, Err, IfOk, ap, subst, sym, arith}
use Rattle.std.proofs.lemmas.Result.{IfOk-weaker}
use Rattle.rv_isa.specs.declared.ins.Ins.{Ins}
use Rattle.elf_file.specs.declared.layout.ElfLayout.{ElfLayout}
use Rattle.ilc_build.specs.Code.{code_of, text_of, IsInt32Instr}
use Rattle.ilc_build.specs.Depths.{row}
use Rattle.ilc_build.specs.File.{layout_of}
use Rattle.ilc_build.specs.Raising.{IsShallow}
use Rattle.ilc_build.proofs.Compiled.{few_instructions, file_is, implements, shallow_rows, short_text}
use Rattle.ilc_build.proofs.compile.compile.Goals as goal

both_ok : {A E : Type 0} (r : Result A E) (P Q R : A → Type 0) → ((x : A) → P x → Q x → R x) → IfOk r P → IfOk r Q
    → IfOk r R
both_ok (Ok x) P Q R f p q = f x p q
both_ok (Err e) P Q R f p q = tt

pub code-requires : goal.code-requires
code-requires c = record {
  few = omega (
    arith,
    ap length c.as_slice.ensures,
    few_instructions c.requires.0 c.args.bare.now.body c.args.bare.now.table.items c.requires.1,
  );
  size = ap length c.as_slice-2.ensures.value ∙ c.requires.1.bare.least.solution.size
      ∙ sym (ap length c.as_slice.ensures);
  shallow = subst (λ t. (n : ℕ) → IsShallow 8 (row t n)) (sym c.as_slice-2.ensures.value)
      (shallow_rows c.args.bare.now.body.code c.args.bare.now.table.items c.requires.1.bare.least.solution.size
      c.requires.1.bare.verified);
}

pub write_elf-requires-clause-text_fits : goal.write_elf-requires-clause-text_fits
write_elf-requires-clause-text_fits c =
    omega (
      arith,
      ap length (ap (λ (l : ElfLayout). l.text) c.layout-layout.ensures.value ∙ c.in_ok-text.ensures
          ∙ ap text_of (c.as_slice-3.ensures.value ∙ c.in_ok-code.ensures.code
          ∙ ap (λ l. code_of l c.as_slice-2.result.now) c.as_slice.ensures
          ∙ ap (code_of c.args.bare.now.body.code) c.as_slice-2.ensures.value)),
      short_text c.requires.0 c.args.bare.now.body c.args.bare.now.table.items c.requires.1,
    )

pub returns-clause-file : goal.returns-clause-file
returns-clause-file c =
    let code : List Ins = code_of c.args.bare.now.body.code c.args.bare.now.table.items in
    let is : c.layout-layout.result ≡ layout_of (text_of code) =
    c.layout-layout.ensures.value ∙ ap layout_of
    (c.in_ok-text.ensures ∙ ap text_of (c.as_slice-3.ensures.value ∙ c.in_ok-code.ensures.code
    ∙ ap (λ l. code_of l c.as_slice-2.result.now) c.as_slice.ensures
    ∙ ap (code_of c.args.bare.now.body.code) c.as_slice-2.ensures.value)) in
    both_ok c.write_elf.result _ _ _ (λ file bytes loads. file_is c.layout-layout.result code file is bytes loads)
    c.write_elf.ensures.bytes c.write_elf.ensures.loads

pub returns-clause-implements : goal.returns-clause-implements
returns-clause-implements c =
    let constants : All IsInt32Instr c.args.bare.now.body.code =
    subst (All IsInt32Instr) c.as_slice.ensures c.in_ok-code.ensures.constants in
    IfOk-weaker c.write_elf.result _ _
    (λ file loads. implements c.requires.0 c.args.bare.now.body c.args.bare.now.table.items c.requires.1
    c.layout-layout.result file c.write_elf.ensures.text_at
    (ap (λ (l : ElfLayout). l.text) c.layout-layout.ensures.value ∙ c.in_ok-text.ensures
    ∙ ap text_of (c.as_slice-3.ensures.value ∙ c.in_ok-code.ensures.code
    ∙ ap (λ l. code_of l c.as_slice-2.result.now) c.as_slice.ensures
    ∙ ap (code_of c.args.bare.now.body.code) c.as_slice-2.ensures.value))
    (ap (λ (l : ElfLayout). l.entry) c.layout-layout.ensures.value) c.layout-layout.ensures.zeros constants loads)
    c.write_elf.ensures.loads

pub write_elf-requires-clause-rest_fits : goal.write_elf-requires-clause-rest_fits
write_elf-requires-clause-rest_fits c =
    omega (arith, ap (λ (l : ElfLayout). length l.rest) c.layout-layout.ensures.value, c.layout-layout.ensures.zeros)
