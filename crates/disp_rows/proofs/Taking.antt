-- A place that leaves the chain of the free ones, and one that comes to it.
use Rattle.std.proofs.Common.{◌≡◌, ◌≢◌, ℕ, ◌<◌, List, [], ◌∷◌, ◌++◌, length, map, get_or, set, slice_get, eqb}
use Rattle.std.proofs.Common.{if◌then◌else◌, inl, inr, true, false, Option, Some, None, refl, sym, ap, ◌∙◌, subst}
use Rattle.std.proofs.Common.{arith, get_or-set_same, get_or-set_other, length-set}
use Rattle.std.proofs.lemmas.List.{map-set, length-map, map-append, get_or_append_left, get_or_push, get_or_past}
use Rattle.std.proofs.lemmas.List.{length_push}
use Rattle.std.proofs.Math.Seq.{map-set_same}
use Rattle.std.proofs.lemmas.Option.{get_or_from_slice_get, slice_get_within}
use Rattle.std.proofs.lemmas.Bool.{ne_eqb, cases_order}
use Rattle.std.proofs.lemmas.Bool.Decides.{eqb_tells}
use Rattle.disp_rows.specs.declared.placed.Cell.{Cell}
use Rattle.disp_rows.specs.declared.place.Place.{Place}
use Rattle.disp_rows.specs.Places.{cell_at, cells_of, links_of, HasFree, SameCells}
use Rattle.link_lists.specs.declared.link.Link.{Link}
use Rattle.link_lists.specs.declared.chain.Chain.{Chain}
use Rattle.link_lists.specs.Links.{free, link_at}
use Rattle.link_lists.specs.Chains.{places as places_in, IsAmong, IsSound, without}

among_without : (p at : ℕ) (ps : List ℕ) → p ≢ at → IsAmong p ps → IsAmong p (without at ps)
among_without p at [] ne among = absurd among
among_without p at (q ∷ qs) ne among = elim (eqb_tells at q) [
  | inl same ↦
      let out : without at (q ∷ qs) ≡ without at qs =
      ap (λ b. (if b then without at qs else q ∷ without at qs)) same.0 in
      subst (IsAmong p) (sym out) (elim among [
        | inl e ↦ absurd (ne (omega (arith, e, same.1)))
        | inr rest ↦ among_without p at qs ne rest
      ])
  | inr other ↦
      let stays : without at (q ∷ qs) ≡ q ∷ without at qs =
      ap (λ b. (if b then without at qs else q ∷ without at qs)) other.0 in
      subst (IsAmong p) (sym stays) (elim among [
        | inl e ↦ inl e
        | inr rest ↦ inr (among_without p at qs ne rest)
      ])
]

-- a place but for its link
abbrev pub unlinked_place : Place → Place
unlinked_place p = record { link = free; cell = p.cell }

fused : (ps : List Place) → map (λ p. p.cell) (map unlinked_place ps) ≡ cells_of ps
fused [] = refl
fused (p ∷ ps) = ap (λ l. p.cell ∷ l) (fused ps)

-- the cells don't change with the links
pub same_cells : (ps qs : List Place) → map unlinked_place qs ≡ map unlinked_place ps → cells_of qs ≡ cells_of ps
same_cells ps qs e = sym (fused qs) ∙ ap (map (λ p. p.cell)) e ∙ fused ps

-- what comes of taking a place
pub record Taken (free' : Chain 0) (before after : List Place) (at : ℕ) (c : Cell) : Type 0 where
  pub stays : HasFree free' after
  pub cells : cells_of after ≡ set (cells_of before) at (Some c)

pub taken : (free free' : Chain 0) (ps qs : List Place) (at : ℕ) (x : Place) (c : Cell) → HasFree free ps →
    IsSound free' (links_of qs) → places_in free' (links_of qs) ≡ without at (places_in free (links_of ps)) →
    cells_of qs ≡ cells_of ps → slice_get qs at ≡ Some x → Taken free' ps (set qs at (record x { cell = Some c })) at c
taken free free' ps qs at x c has sound order same here =
    let y : Place = record x { cell = Some c } in
    let links : links_of (set qs at y) ≡ links_of qs =
    map-set_same (λ p. p.link) qs at y x (ap (λ p. p.link) (sym (get_or_from_slice_get qs at x x here))) in
    let cells : cells_of (set qs at y) ≡ set (cells_of ps) at (Some c) =
    map-set (λ p. p.cell) qs at y ∙ ap (λ l. set l at (Some c)) same in
    let long : length (cells_of qs) ≡ length (cells_of ps) = ap length same in
    let within : at < length (cells_of ps) = omega (
      arith,
      slice_get_within qs at x here,
      long,
      length-map qs (λ p. p.cell),
    ) in
    record {
      stays = (
        subst (IsSound free') (sym links) sound,
        λ p lt none. subst (IsAmong p) (sym (ap (places_in free') links ∙ order)) (elim (eqb_tells p at) [
          | inl e ↦
              let some : cell_at (set qs at y) p ≡ Some c =
              ap (λ l. get_or l p None) cells ∙ ap (λ n. get_or (set (cells_of ps) at (Some c)) n None) e.1
              ∙ get_or-set_same (cells_of ps) at (Some c) None within in
              let never : None ≡ Some c = sym none ∙ some in cc
          | inr ne ↦
              let there : cell_at ps p ≡ None =
              sym (ap (λ l. get_or l p None) cells ∙ get_or-set_other (cells_of ps) at p (Some c) None ne.1) ∙ none in
              let below : p < length ps = omega (
                arith,
                lt,
                long,
                length-map qs (λ q. q.cell),
                length-map ps (λ q. q.cell),
                length-set qs at y,
              ) in
              among_without p at (places_in free (links_of ps)) ne.1 (has.1 p below there)
        ]),
      );
      cells = cells;
    }

among_left : (p : ℕ) (ps qs : List ℕ) → IsAmong p ps → IsAmong p (ps ++ qs)
among_left p [] qs among = absurd among
among_left p (r ∷ ps) qs among = elim among [ inl e ↦ inl e | inr rest ↦ inr (among_left p ps qs rest) ]

among_last : (p q : ℕ) (ps : List ℕ) → p ≡ q → IsAmong p (ps ++ q ∷ [])
among_last p q [] e = inl e
among_last p q (r ∷ ps) e = inr (among_last p q ps e)

abbrev pub place_with : Link → Place
place_with l = record { link = l; cell = None }

-- a free place
abbrev pub blank : Place
blank = place_with free

pub blank_links : (ps : List Place) → links_of (ps ++ blank ∷ []) ≡ links_of ps ++ free ∷ []
blank_links ps = map-append (λ p. p.link) ps (blank ∷ [])

pub blank_cells : (ps : List Place) (p : ℕ) → cell_at (ps ++ blank ∷ []) p ≡ cell_at ps p
blank_cells ps p =
    ap (λ l. get_or l p None) (map-append (λ q. q.cell) ps (blank ∷ [])) ∙ elim (cases_order p (length (cells_of ps))) [
      | inl e ↦
          get_or_push (cells_of ps) None None p (sym e) ∙ sym (get_or_past (cells_of ps) p None (omega (arith, e)))
      | inr other ↦ elim other [
        | inl lt ↦ get_or_append_left (cells_of ps) (None ∷ []) None p lt
        | inr gt ↦
            get_or_past (cells_of ps ++ None ∷ []) p None (omega (arith, length_push (cells_of ps) None))
            ∙ sym (get_or_past (cells_of ps) p None (omega arith))
      ]
    ]

-- what comes of a place at the end
pub added : (free free' : Chain 0) (ps qs : List Place) → HasFree free ps → IsSound free' (links_of qs) →
    places_in free' (links_of qs) ≡ places_in free (links_of ps) ++ length ps ∷ [] →
    cells_of qs ≡ cells_of (ps ++ blank ∷ []) → HasFree free' qs
added free free' ps qs has sound order same = (
  sound,
  λ p lt none. subst (IsAmong p) (sym order) (elim (cases_order p (length ps)) [
    | inl e ↦ among_last p (length ps) (places_in free (links_of ps)) e
    | inr other ↦ elim other [
      | inl below ↦
          among_left p (places_in free (links_of ps)) (length ps ∷ []) (has.1 p below (sym (ap (λ l. get_or l p None) same
          ∙ blank_cells ps p) ∙ none))
      | inr gt ↦ absurd (omega (
        arith,
        lt,
        ap length same,
        length-map qs (λ q. q.cell),
        length-map (ps ++ blank ∷ []) (λ q. q.cell),
        length_push ps blank,
      ))
    ]
  ]),
)

-- a place that was added may come to the chain
pub readied : (chain : Chain 0) (ps qs : List Place) (at : ℕ) → IsSound chain (links_of ps ++ free ∷ []) → qs
    ≡ ps ++ blank ∷ [] → at ≡ length ps → IsSound chain (links_of qs) × (at < length qs)
    × ((link_at (links_of qs) at).held ≡ false)
readied chain ps qs at sound is e =
    let links : links_of qs ≡ links_of ps ++ free ∷ [] = ap links_of is ∙ blank_links ps in (
      subst (IsSound chain) (sym links) sound,
      omega (arith, ap length is, length_push ps blank),
      ap (λ ls. (link_at ls at).held) links
          ∙ ap (λ (l : Link). l.held) (get_or_push (links_of ps) free free at (omega (
            arith,
            e,
            length-map ps (λ p. p.link),
          ))),
    )
