use Rattle.std.proofs.Common.{◌≡◌, ◌∷◌, [], ◌++◌, List, get_or, None, lit<, ap, ◌∙◌}
use Rattle.disp_rows.specs.declared.place.Place.{Place}
use Rattle.disp_rows.specs.Places.{cells_of, links_of}
use Rattle.link_lists.specs.Links.{free}
use Rattle.link_lists.specs.Chains.{places as places_in}
use Rattle.disp_rows.proofs.Taking.{place_with, blank, blank_links, blank_cells, added, readied, same_cells}
use Rattle.disp_rows.proofs.place.add_place.Goals as goal

pub push_back-requires : goal.push_back-requires
push_back-requires c =
    let ps = c.args.places.now in
    let is : c.push.new.self ≡ ps ++ blank ∷ [] =
    c.in-Ok.ensures.added ∙ ap (λ l. ps ++ place_with l ∷ []) c.free.ensures in
    let ready = readied c.args.free.now ps c.push.new.self c.in-Ok.at (c.chains_in_a_growing_pool.ensures.sound 0
    c.args.free.now (links_of ps) free c.requires.free.0) is c.in-Ok.ensures.place in
    (lit< tt, (ready.0, (ready.1, ready.2)))

pub returns-in-Ok-clause-free : goal.returns-in-Ok-clause-free
returns-in-Ok-clause-free c =
    let ps = c.args.places.now in
    let is : c.push.new.self ≡ ps ++ blank ∷ [] =
    c.in-Ok.ensures.added ∙ ap (λ l. ps ++ place_with l ∷ []) c.free.ensures in
    let links : links_of c.push.new.self ≡ links_of ps ++ free ∷ [] = ap links_of is ∙ blank_links ps in
    added c.args.free.now c.push_back.new.self ps c.push_back.new.pool c.requires.free c.push_back.ensures.sound
    (c.push_back.ensures.places ∙ ap (λ ls. places_in c.args.free.now ls ++ c.in-Ok.at ∷ []) links
    ∙ ap (λ l. l ++ c.in-Ok.at ∷ []) (c.chains_in_a_growing_pool.ensures.places 0 c.args.free.now (links_of ps) free
    c.requires.free.0) ∙ ap (λ n. places_in c.args.free.now (links_of ps) ++ n ∷ []) c.in-Ok.ensures.place)
    (same_cells c.push.new.self c.push_back.new.pool c.push_back.ensures.rests ∙ ap cells_of is)

pub returns-in-Ok-clause-cells : goal.returns-in-Ok-clause-cells
returns-in-Ok-clause-cells c = λ at.
    let ps = c.args.places.now in
    let is : c.push.new.self ≡ ps ++ blank ∷ [] =
    c.in-Ok.ensures.added ∙ ap (λ l. ps ++ place_with l ∷ []) c.free.ensures in
    ap (λ l. get_or l at None) (same_cells c.push.new.self c.push_back.new.pool c.push_back.ensures.rests
    ∙ ap cells_of is) ∙ blank_cells ps at
