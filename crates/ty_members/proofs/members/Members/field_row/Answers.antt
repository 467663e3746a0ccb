use Rattle.std.proofs.Common.{◌≡◌, ◌∙◌, ℕ, List, Option, Some, None, ap, sym}
use Rattle.std.specs.Option.{option_and_then}
use Rattle.ty_terms.specs.declared.names.TypeId.{TypeId}
use Rattle.ty_terms.specs.declared.ty.Ty.{Ty}
use Rattle.ty_names.specs.Modules.{World}
use Rattle.ty_load.specs.Bases.{parameters}
use Rattle.ty_load.specs.Members.{field_of}
use Rattle.ty_load.specs.Types.{resolved_type}
use Rattle.ty_members.proofs.Answered.{same_answer}
use Rattle.ty_members.proofs.members.Members.field_row.Goals as goal

-- what the type leads to, and with it the field
found : (world names : World) (number count : ℕ) (id : TypeId) (ty : Ty) (o wanted : Option Ty) → names ≡ world
    → count ≡ parameters names id → o ≡ resolved_type names number count 0 ty → o ≡ wanted
    → wanted ≡ resolved_type world number (parameters world id) 0 ty
found world names number count id ty o wanted e n told is =
    sym is ∙ (told ∙ (ap (λ k. resolved_type names number k 0 ty) n
    ∙ ap (λ (w : World). resolved_type w number (parameters w id) 0 ty) e))

pub returns-in-Some : goal.returns-in-Some
returns-in-Some c =
    let world : World = c.args.self.now in
    let name : List ℕ = c.args.name.now in
    same_answer c.field_of.result (field_of world c.args.id name c.in-Some.wanted)
    (option_and_then (field_of world c.args.id name)
    (resolved_type world c.args.module (parameters world c.args.id) 0 c.args.ty.now))
    (ap (option_and_then (field_of world c.args.id name))
    (found world c.names-names.result.now c.args.module c.parameters.result c.args.id c.args.ty.now
    c.in_ok-wanted.field-0 (Some c.in-Some.wanted) c.names-names.ensures c.parameters.ensures c.in_ok-wanted.ensures
    c.in-Some.is)) c.field_of.ensures

pub returns-in-None : goal.returns-in-None
returns-in-None c =
    let world : World = c.args.self.now in
    ap (option_and_then (field_of world c.args.id c.args.name.now))
    (found world c.names-names.result.now c.args.module c.parameters.result c.args.id c.args.ty.now
    c.in_ok-wanted.field-0 None c.names-names.ensures c.parameters.ensures c.in_ok-wanted.ensures c.in-None.is)
