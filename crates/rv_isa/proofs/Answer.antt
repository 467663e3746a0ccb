-- What `decode` answers, given that it is the instruction of the word's parts.
use Rattle.std.proofs.Common.{refl, ◌≡◌, ◌≢◌, ℕ, ◌<◌, ◌^◌, ◌∙◌, ap, sym, subst, Some, None, Option, Result, Ok, Err}
use Rattle.std.specs.Prelude.{IfOk, IsErr, ◌↔◌}
use Rattle.std.specs.Option.{ok_or}
use Rattle.rv_isa.specs.declared.ins.Ins.{Ins}
use Rattle.rv_isa.specs.declared.decoding.Illegal.{Illegal}
use Rattle.rv_isa.specs.Instructions.{word_of, IsLegal}
use Rattle.rv_isa.specs.Parts.{parts_of}
use Rattle.rv_isa.specs.Rows.{instruction}
use Rattle.rv_isa.proofs.Rows.{Gives, known, found}

pub back_of : (w : ℕ) (o : Option Ins) (r : Result Ins Illegal) → o ≡ instruction (parts_of w)
    → r ≡ ok_or o (record { 0 = w }) → (ins : Ins) → IsLegal ins → word_of ins ≡ w → r ≡ Ok ins
back_of w o r is same ins legal word =
    let here : instruction (parts_of w) ≡ Some ins = ap (λ v. instruction (parts_of v)) (sym word) ∙ known ins legal in
    same ∙ ap (λ x. ok_or x (record { 0 = w })) (is ∙ here)

row_at : (w : ℕ) (o : Option Ins) (e : Illegal) → Gives o w → IfOk (ok_or o e) (λ ins. IsLegal ins × (word_of ins ≡ w))
row_at w (Some ins) e gives = gives
row_at w None e gives = tt

pub row_of : (w : ℕ) (o : Option Ins) (r : Result Ins Illegal) → w < 2 ^ 32 → o ≡ instruction (parts_of w)
    → r ≡ ok_or o (record { 0 = w }) → IfOk r (λ ins. IsLegal ins × (word_of ins ≡ w))
row_of w o r l is same =
    subst (λ (x : Result Ins Illegal). IfOk x (λ ins. IsLegal ins × (word_of ins ≡ w))) (sym same)
    (row_at w o (record { 0 = w }) (subst (λ (x : Option Ins). Gives x w) (sym is) (found w l)))

err_at : (r : Result Ins Illegal) (ins : Ins) → r ≡ Ok ins → IsErr r → ⊥
err_at r ins is err =
    let ok : Result Ins Illegal = Ok ins in
    let at_ok : IsErr ok = subst (λ (x : Result Ins Illegal). IsErr x) is err in cc

unless : (w : ℕ) (r : Result Ins Illegal) → IfOk r (λ ins. IsLegal ins × (word_of ins ≡ w))
    → ((ins : Ins) → IsLegal ins → word_of ins ≢ w) → IsErr r
unless w (Ok ins) row none = absurd (none ins row.0 row.1)
unless w (Err e) row none = refl

pub illegal_of : (w : ℕ) (o : Option Ins) (r : Result Ins Illegal) → w < 2 ^ 32 → o ≡ instruction (parts_of w)
    → r ≡ ok_or o (record { 0 = w }) → IsErr r ↔ ((ins : Ins) → IsLegal ins → word_of ins ≢ w)
illegal_of w o r l is same =
    (λ err ins legal word. err_at r ins (back_of w o r is same ins legal word) err, unless w r (row_of w o r l is same))
