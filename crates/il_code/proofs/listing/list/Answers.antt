use Rattle.std.proofs.Common.{rules, ap, ◌≡◌, ◌-◌, ◌<◌, ◌≤◌, ◌∷◌, ◌++◌, [], ℕ, List, length, subst, sym, arith}
use Rattle.std.proofs.lemmas.List.{length_push}
use Rattle.il_code.specs.Listing.{listed, listed_from}
use Rattle.il_code.specs.declared.body.Instr.{Instr}
use Rattle.il_code.proofs.Listed.{all_in_front, lists_on, none_stands, all_listed}
use Rattle.il_code.proofs.Following.{listed-rising}
use Rattle.il_code.proofs.listing.list.Goals as goal

pub returns-then-at-code-clause-code : goal.returns-then-at-code-clause-code
returns-then-at-code-clause-code c =
    all_listed c.args.code.now c.loop-alloc.instrs c.loop-alloc.at (listed c.args.code.now) c.if-at-code.true
    c.loop-alloc.invariant.code

pub loop-alloc-preserved : goal.loop-alloc-preserved
loop-alloc-preserved c =
    let code : List ℕ = c.args.code.now in
    let done : List Instr = c.loop-alloc.instrs in
    let instr : Instr = c.in-Ok-Some.instr in
    let grown : c.push.new.self ≡ done ++ instr ∷ [] = search rules in
    let more : length done < length code = omega (arith, c.len.ensures, c.loop-alloc-test.true) in
    let few : length c.push.new.self ≤ length code = omega (arith, ap length grown, length_push done instr, more) in
    let so_far : listed code ≡ all_in_front c.push.new.self (listed_from (length code - length c.push.new.self) code
    instr.next) =
    subst (λ instrs. listed code ≡ all_in_front instrs (listed_from (length code - length instrs) code instr.next))
    (sym grown)
    (lists_on code done c.loop-alloc.at c.in-Ok-Some.field-0 instr (listed code) more c.if-at-code.false
    c.in-Ok-Some.ensures c.in-Ok-Some.field-0-is c.loop-alloc.invariant.code) in
    record { code = so_far; few = few }

pub returns-in-Ok-None-clause-refused : goal.returns-in-Ok-None-clause-refused
returns-in-Ok-None-clause-refused c =
    none_stands c.args.code.now c.loop-alloc.instrs c.loop-alloc.at c.in-Ok-None.field-0 (listed c.args.code.now)
    (omega (arith, c.len.ensures, c.loop-alloc-test.true)) c.if-at-code.false c.in-Ok-None.ensures
    c.in-Ok-None.field-0-is c.loop-alloc.invariant.code

pub returns-then-at-code-clause-rising : goal.returns-then-at-code-clause-rising
returns-then-at-code-clause-rising c =
    listed-rising c.args.code.now c.loop-alloc.instrs
    (all_listed c.args.code.now c.loop-alloc.instrs c.loop-alloc.at (listed c.args.code.now) c.if-at-code.true
    c.loop-alloc.invariant.code)

pub returns-then-at-code-2-clause-rising : goal.returns-then-at-code-2-clause-rising
returns-then-at-code-2-clause-rising c = listed-rising c.args.code.now c.loop-alloc.instrs (search rules)
