use Rattle.std.proofs.Common.{◌≡◌, ◌∙◌, ℕ, Bool, List, [], ◌∷◌, ◌++◌, map, None, Vec, Global, OnOk, ap, subst, sym}
use Rattle.std.specs.Map.{lookup}
use Rattle.std.specs.Str.{bytes_eq}
use Rattle.indexmap.proofs.CallerLemmas.{insert_entry-new}
use Rattle.md_write.proofs.Items.{lookup_seen, map_pushed}
use Rattle.md_write.proofs.heap.insert.Goals as goal
use Rattle.md_write.proofs.heap.insert.Goals.{in-Ok-insert, in-Err-insert}

pub returns : goal.returns
returns c =
    let seen : Vec ℕ Global × ℕ → List ℕ × ℕ = λ entry. (entry.0.items, entry.1) in
    let same : Vec ℕ Global → Vec ℕ Global → Bool = λ a b. bytes_eq a.items b.items in
    let entries : List (Vec ℕ Global × ℕ) = c.args.items.now.entries in
    let key : Vec ℕ Global = c.in-Ok.key in
    let absent : lookup (same key) entries ≡ None =
    sym (lookup_seen (λ (k : Vec ℕ Global). k.items) (bytes_eq key.items) entries)
    ∙ (ap (λ i. lookup (bytes_eq i) (map seen entries)) c.in-Ok.ensures.items ∙ c.requires) in
    let P : Type 0 = map seen c.insert.new.self.entries ≡ map seen entries ++ (c.args.item.now, c.args.index) ∷ [] in
    elim c.match-insert.branch [
      | in-Ok-insert w ↦ subst (λ r. OnOk r P) (sym w.result-is)
          (ap (map seen) (w.in-Ok-insert.ensures.entries
          ∙ insert_entry-new same c.args.items.now key c.args.index absent)
          ∙ (map_pushed seen entries (key, c.args.index)
          ∙ ap (λ i. map seen entries ++ (i, c.args.index) ∷ []) c.in-Ok.ensures.items))
      | in-Err-insert w ↦ subst (λ r. OnOk r P) (sym w.result-is) tt
    ]
