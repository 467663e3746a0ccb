-- Calls that have come some way through the pieces of a file.
use Rattle.std.proofs.Common.{◌≡◌, ◌⊎◌, ℕ, ◌+◌, ◌-◌, ◌<◌, ◌≤◌, min, List, [], ◌∷◌, ◌++◌, Option, Some, None, refl}
use Rattle.std.proofs.Common.{sym, ap, ◌∙◌, subst, append_assoc, append-nil, inl, inr, arith}
use Rattle.std.specs.Option.{option_map}
use Rattle.ilc_io.specs.declared.call.Call.{Call}
use Rattle.ilc_io.specs.Calls.{noted, ArePieces, AreMade}

-- From `old` to `new` the calls `made` came, with which the pieces reach `at`: whatever pieces come from there
-- on make all of them together.
pub record Reaches (ask : ℕ → ℕ → Call) (most size at : ℕ) (old new : Option (List Call)) : Type 0 where
  pub made : List Call
  pub noted_so_far : new ≡ option_map (λ before. before ++ made) old
  pub continued : (more : List Call) → ArePieces ask most size at more → ArePieces ask most size 0 (made ++ more)

nothing_more : (old : Option (List Call)) → old ≡ option_map (λ before. before ++ []) old
nothing_more None = refl
nothing_more (Some calls) = ap Some (sym (append-nil calls))

one_more :
    (old : Option (List Call)) (made : List Call) (call : Call) →
    noted call (option_map (λ before. before ++ made) old) ≡ option_map (λ before. before ++ (made ++ call ∷ [])) old
one_more None made call = refl
one_more (Some calls) made call = ap Some (append_assoc calls made (call ∷ []))

pub reaches_start :
    (ask : ℕ → ℕ → Call) (most size : ℕ) (old new : Option (List Call)) → new ≡ old → Reaches ask most size 0 old new
reaches_start ask most size old new e =
    record { made = []; noted_so_far = e ∙ nothing_more old; continued = λ more pieces. pieces }

-- a call that was given some
pub reaches_more :
    (ask : ℕ → ℕ → Call) (most size at len count next : ℕ) (old mid new : Option (List Call)) →
    Reaches ask most size at old mid → new ≡ noted (ask at len) mid → len ≡ min most (size - at) → at < size →
    0 < count → count ≤ len → next ≡ at + count → Reaches ask most size next old new
reaches_more ask most size at len count next old mid new so_far is e lt some le n =
    let call : Call = ask at len in
    record {
      made = so_far.made ++ call ∷ [];
      noted_so_far = is ∙ ap (noted call) so_far.noted_so_far ∙ one_more old so_far.made call;
      continued = λ more pieces.
          rw append_assoc
          (so_far.continued (call ∷ more) (
            lt,
            ap (ask at) e,
            (
              count,
              subst (λ k. count ≤ k) e le,
              (λ none. absurd (omega arith)),
              subst (λ k. ArePieces ask most size k more) n pieces,
            ),
          ));
    }

pub reaches_end :
    (ask : ℕ → ℕ → Call) (most size at : ℕ) (old new : Option (List Call)) → Reaches ask most size at old new →
    AreMade ask most size old new
reaches_end ask most size at old new so_far =
    (so_far.made, so_far.noted_so_far, rw append-nil at (so_far.continued [] tt))

-- the last call was given none, or was refused
pub reaches_last :
    (ask : ℕ → ℕ → Call) (most size at len : ℕ) (old mid new : Option (List Call)) →
    Reaches ask most size at old mid → new ≡ noted (ask at len) mid → len ≡ min most (size - at) → at < size →
    AreMade ask most size old new
reaches_last ask most size at len old mid new so_far is e lt =
    let call : Call = ask at len in (
      so_far.made ++ call ∷ [],
      is ∙ ap (noted call) so_far.noted_so_far ∙ one_more old so_far.made call,
      so_far.continued (call ∷ []) (lt, ap (ask at) e, (0, omega arith, (λ none. refl), tt)),
    )

-- a refused call may be noted or not
pub reaches_break :
    (ask : ℕ → ℕ → Call) (most size at len : ℕ) (old mid new : Option (List Call)) →
    Reaches ask most size at old mid → (new ≡ mid) ⊎ (new ≡ noted (ask at len) mid) → len ≡ min most (size - at) →
    at < size → AreMade ask most size old new
reaches_break ask most size at len old mid new so_far (inl e) l lt =
    reaches_end ask most size at old new
    (record { made = so_far.made; noted_so_far = e ∙ so_far.noted_so_far; continued = so_far.continued })
reaches_break ask most size at len old mid new so_far (inr e) l lt =
    reaches_last ask most size at len old mid new so_far e l lt
