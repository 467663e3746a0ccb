use Rattle.std.proofs.Common.{rules, ◌≡◌, ◌∙◌, ◌+◌, ◌-◌, ◌<◌, ◌&&◌, ℕ, Bool, true, false, not, Some, List, sym, arith}
use Rattle.std.proofs.Common.{nat_eq}
use Rattle.std.specs.Str.{bytes_eq}
use Rattle.md_tables.specs.declared.module.Table.{Table}
use Rattle.ty_names.specs.Modules.{tables_at}
use Rattle.ty_names.specs.Definitions.{methods_of, run_begin, run_end}
use Rattle.ty_load.specs.Texts.{has_same, plain_method_text}
use Rattle.ty_texts.proofs.Again.{decide_here, decide_on}
use Rattle.ty_texts.proofs.methods.has_same_method.Goals as goal

pub returns-then-branch : goal.returns-then-branch
returns-then-branch c =
    let tables : List Table = tables_at c.args.names.now c.args.id.module in
    let begin : ℕ = run_begin tables 0x02 5 c.args.id.row in
    let count : ℕ = run_end tables 0x02 5 0x06 c.args.id.row - begin in
    let text : ℕ → List ℕ = λ row. plain_method_text c.args.names.now c.args.owner.now (Some c.args.id)
    c.args.method.module row c.args.args.now in
    let test : ℕ → Bool = λ row. not (nat_eq row c.args.method.row) && bytes_eq (text row) (text c.args.method.row) in
    let same : c.run_count-k-end.result ≡ count = c.run_count-k-end.ensures.count 0x06 c.method_count.ensures in
    let there : c.loop-k.k < count = omega (arith, same) in
    let found : c.in_ok-has_text.field-0 ≡ true = search rules in
    let is : c.in_ok-has_text.field-0 ≡ test (begin + c.loop-k.k) =
    c.in_ok-has_text.ensures
    ∙ (λ i. not (nat_eq (c.run_begin-begin.ensures i + c.loop-k.k) c.args.method.row)
    && bytes_eq (text (c.run_begin-begin.ensures i + c.loop-k.k)) (c.requires i)) in
    decide_here test begin count (has_same text (methods_of tables c.args.id.row) c.args.method.row)
    c.loop-k.k there (sym is ∙ found) c.loop-k.invariant

pub loop-k-preserved : goal.loop-k-preserved
loop-k-preserved c =
    let tables : List Table = tables_at c.args.names.now c.args.id.module in
    let begin : ℕ = run_begin tables 0x02 5 c.args.id.row in
    let count : ℕ = run_end tables 0x02 5 0x06 c.args.id.row - begin in
    let text : ℕ → List ℕ = λ row. plain_method_text c.args.names.now c.args.owner.now (Some c.args.id)
    c.args.method.module row c.args.args.now in
    let test : ℕ → Bool = λ row. not (nat_eq row c.args.method.row) && bytes_eq (text row) (text c.args.method.row) in
    let same : c.run_count-k-end.result ≡ count = c.run_count-k-end.ensures.count 0x06 c.method_count.ensures in
    let there : c.loop-k.k < count = omega (arith, same) in
    let none : c.in_ok-has_text.field-0 ≡ false = search rules in
    let is : c.in_ok-has_text.field-0 ≡ test (begin + c.loop-k.k) =
    c.in_ok-has_text.ensures
    ∙ (λ i. not (nat_eq (c.run_begin-begin.ensures i + c.loop-k.k) c.args.method.row)
    && bytes_eq (text (c.run_begin-begin.ensures i + c.loop-k.k)) (c.requires i)) in
    decide_on test begin count
    (has_same text (methods_of tables c.args.id.row) c.args.method.row)
    c.loop-k.k there (sym is ∙ none) c.loop-k.invariant
