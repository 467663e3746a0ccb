use Rattle.std.proofs.Common.{◌≡◌, ◌∙◌, ◌+◌, ◌-◌, ◌<◌, ℕ, length, get_or, ap, arith}
use Rattle.std.proofs.lemmas.List.{get_or_default}
use Rattle.ty_terms.specs.declared.names.TypeId.{TypeId}
use Rattle.ty_names.specs.Modules.{World}
use Rattle.ty_load.specs.Cycles.{all_ids}
use Rattle.ty_world.specs.Numbering.{IsDefined, IsNumbering, number_of, start_of}
use Rattle.ty_world.specs.declared.numbering.Numbering.{Numbering}
use Rattle.ty_world.proofs.Graphs.{module_within, number_below}
use Rattle.ty_world.proofs.numbering.Numbering.number_of.Goals as goal

start_is : (world : World) (numbering : Numbering) (id : TypeId) (x : ℕ) → IsNumbering world numbering
    → IsDefined world id → x ≡ get_or numbering.starts.items id.module x → x ≡ start_of world id.module
start_is world numbering id x n h e =
    let within : id.module < length world = module_within world id h in
    e
    ∙ (get_or_default numbering.starts.items id.module x 0 (omega (arith, within, n.modules))
    ∙ n.starts id.module within)

pub overflow_add-result : goal.overflow_add-result
overflow_add-result c =
    let world : World = c.args.names.now in
    let id : TypeId = c.args.id in
    let start : c.index.result.now ≡ start_of world id.module =
    start_is world c.args.self.now id c.index.result.now c.requires.numbered c.requires.defined c.index.ensures in
    let below : number_of world id < length (all_ids world) = number_below world id c.requires.defined in
    let count : length c.args.self.now.ids.items ≡ length (all_ids world) = ap length c.requires.numbered.ids in
    omega (arith, start, below, count, c.args.self.now.ids.ok, c.args.self.now.ids.small)

pub returns : goal.returns
returns c =
    ap (λ n. n + (c.args.id.row - 1))
    (start_is c.args.names.now c.args.self.now c.args.id c.index.result.now c.requires.numbered c.requires.defined
    c.index.ensures)
