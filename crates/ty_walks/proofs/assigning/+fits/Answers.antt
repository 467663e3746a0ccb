use Rattle.std.proofs.Common.{◌≡◌, ◌∙◌, Bool, true, false, Option, Some, None, Ok, ap, sym, subst}
use Rattle.ty_terms.specs.declared.ty.Ty.{Ty}
use Rattle.ty_load.specs.Told.{IsToldIn}
use Rattle.ty_load.specs.Walks.{base_type}
use Rattle.ty_walks.specs.Above.{fits_beside}
use Rattle.ty_walks.proofs.Walking.{fault_above, fault_beside, fits_if, fits_now, goes_above, interfaces_are}
use Rattle.ty_walks.proofs.assigning.+fits.Goals as goal

pub interfaces_fit-returns-in-Ok-Some : goal.interfaces_fit-returns-in-Ok-Some
interfaces_fit-returns-in-Ok-Some t c =
    subst (IsToldIn {A = Bool} c.args.names.now c.one_fits.result)
    (sym (interfaces_are c.args.left c.args.names.now c.args.from.now c.args.to.now
    ∙ ap (fits_if c.args.left c.args.names.now c.args.from.now c.args.to.now)
    (sym c.in-Ok-Some.ensures ∙ c.in-Ok-Some.field-0-is)))
    c.one_fits.ensures

pub walk-returns-in-Ok-true : goal.walk-returns-in-Ok-true
walk-returns-in-Ok-true t c =
    let beside : fits_beside c.args.left c.args.names.now c.args.from.now c.args.to.now ≡ Ok true =
    c.in-Ok-true.ensures ∙ ap (λ (b : Bool). Ok b) c.in-Ok-true.field-0-test in
    fits_now c.args.left c.args.names.now c.args.from.now c.args.to.now beside

pub walk-returns-in-Ok-Some : goal.walk-returns-in-Ok-Some
walk-returns-in-Ok-Some t c =
    let beside : fits_beside c.args.left c.args.names.now c.args.from.now c.args.to.now ≡ Ok false =
    c.in-Ok-false.ensures ∙ ap (λ (b : Bool). Ok b) c.in-Ok-false.field-0-test in
    let above : base_type c.args.names.now c.args.from.now ≡ Ok (Some c.in-Ok-Some.base) =
    c.in-Ok-Some.ensures ∙ ap (λ (base : Option Ty). Ok base) c.in-Ok-Some.field-0-is in
    goes_above c.args.left c.args.names.now c.args.from.now c.args.to.now (Some c.in-Ok-Some.base) beside above

pub walk-returns-in-Ok-None : goal.walk-returns-in-Ok-None
walk-returns-in-Ok-None t c =
    let beside : fits_beside c.args.left c.args.names.now c.args.from.now c.args.to.now ≡ Ok false =
    c.in-Ok-false.ensures ∙ ap (λ (b : Bool). Ok b) c.in-Ok-false.field-0-test in
    let above : base_type c.args.names.now c.args.from.now ≡ Ok None =
    c.in-Ok-None.ensures ∙ ap (λ (base : Option Ty). Ok base) c.in-Ok-None.field-0-is in
    goes_above c.args.left c.args.names.now c.args.from.now c.args.to.now None beside above

pub walk-returns-in-Err-base_type : goal.walk-returns-in-Err-base_type
walk-returns-in-Err-base_type t c =
    let beside : fits_beside c.args.left c.args.names.now c.args.from.now c.args.to.now ≡ Ok false =
    c.in-Ok-false.ensures ∙ ap (λ (b : Bool). Ok b) c.in-Ok-false.field-0-test in
    fault_above c.args.left c.args.names.now c.args.from.now c.args.to.now c.in-Err-base_type.fault beside
    c.in-Err-base_type.ensures

pub walk-returns-in-Err : goal.walk-returns-in-Err
walk-returns-in-Err t c =
    fault_beside c.args.left c.args.names.now c.args.from.now c.args.to.now c.in-Err.fault c.in-Err.ensures
