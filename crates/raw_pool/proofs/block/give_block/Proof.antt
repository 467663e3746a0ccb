-- `give_block` meets its contract: a walk of its code, since the address of the memory is a raw pointer. Assumes
-- `Logic`.
use mathlib.Core.Path.{◌≡◌, refl, sym, ap, subst, ◌∙◌}
use Prim.Native.Nat.{ℕ, ◌*◌, ◌<◌, ◌^◌}
use native.Mathlib.Omega.{arith}
use mathlib.Core.List.{List, [], ◌∷◌, ◌++◌}
use lib.ListN.{length}
use lib.Dec.{T}
use seplogic.Ra.Ura.{Ura}
use mir.Syntax.{Ty, Fn, ty_array}
use mir.Val.{Val, vptr, vunit, vstruct, of_list, has_ty, WT}
use mir.MapTy.{inst_fn}
use base.Logic.{SProp, ent, sep, id⊢}
use base.Fml.{Lft, Share, ftrue, froom, flft}
use prog.Memory.{Memory, align, capped}
use prog.Capped.{capped_fits}
use prog.Routine.{Routine}
use prog.Wp.{Env, Calls, Loops, WpFn, Tables}
use types.Logic.{Logic}
use contract.BorrowLft.{◌⊑◌, ⊑_trans}
use contract.Monad.{Fun, fact}
use contract.Running.{tables, tables_of}
use sound.WpLaws.{FmC, fm_of, WpFn-mono}
use types.Kit.{Item, ‵, raw, ◌⊛◌, ⋆, some, later, given, at_ret, ◌$◌, ◌∵◌, !, qed, by, move, keep, drop, use1, use2}
use types.Kit.{split, join, pick, learn, rewrite, fsplit, fjoin, fpick, feq_l, feq_i, suffices, await, done}
use types.Run.{stop, fld, unit_lit, bin, size_word, align_word, no_more, and_then, of_opd, first, blocks, exec, returns}
use types.Run.{enter}
use types.Part.{whole, sub}
use types.ByLocal.{alloc_all, pass_all, free_all, look_at, get, get_in, sets, is, lands_last, env}
use denote.Exit.{yes, no}
use denote.Param.{layout}
use denote.RattleType.{owns}
use denote.RawPtr.{Ptr, block_ptr}
use denote.Ref.{Bor}
use denote.Signature.{Slot, plain, types_at}
use denote.Steps.{nothing, heard, only}
use denote.Builtin.{RefOf, unit}
use denote.Triple.Call.{calls_at_last}
use denote.Triple.Clauses.{Ended, Clauses, Lasts, lasts}
use denote.Triple.Spec.{triple_of}
use denote.Triple.Statement.{Triple}
use denote.Triple.Table.{entered}
use denote.Triple.Walked.{Stays, stay_dropped, walk_of, ends_at, Goes-dropped, walk_Meets}
use Rattle.core.proofs.mem.Param.{El, R, elτ, args as one}
use Rattle.core.proofs.alloc.Calls.{Al, token, seen, gives_key, Gives, at_gives, Gives-goes, Gives-Gives, Goes-blank}
use Rattle.core.proofs.alloc.Shapes.{after}
use Rattle.core.proofs.slots.Leases.{P, args, block_ty, block_size, block_align, uncapped}
use Rattle.core.proofs.slots.Places.{sz, to_room}
use Rattle.core.proofs.slots.Opens.{Sr, row_had, row_made, row_val, words_val}
use Rattle.core.specs.Mem.Slots.Ownership.{owned}
use Rattle.core.specs.contracts.slots.Slots.into_raw_parts as taken_apart
use Rattle.core.proofs.slots.Slots.into_raw_parts.Symbol as apart
use Rattle.core.proofs.slots.Slots.into_raw_parts.Met as apart_met
use Rattle.raw_pool.proofs.BlockSteps.{Ti, title_val, known, title_known, Parts, Pair, at_parts, parts_goes}
use Rattle.raw_pool.specs.contracts.block.give_block as F
use Rattle.raw_pool.specs.contracts.block.give_block.Key as key
use Rattle.raw_pool.proofs.block.give_block.Statement as stated
use Rattle.raw_pool.proofs.block.give_block.Code as code

module _ (E : El) (Z : Al) where
  abbrev here : Fn
  here = inst_fn (args E Z) code.function

  abbrev heap : Slot 3
  heap = RefOf (0 ∷ []) tt (plain (λ _. P E Z)) (λ _. tt)

  abbrev ended : Ended
  ended = F.ended E.row Z.row Z.g Z.d Z.drops

  abbrev stayed : Stays ended.signature.params ended.kept
  stayed = (stay_dropped heap yes, (stay_dropped (plain (λ _. Sr E)) no, (stay_dropped (plain (λ _. Ti E Z)) no, tt)))

module _ (E : El) (Z : Al) {M : Type 1} {𝓤 : Ura M} (𝓛 : Logic 𝓤) (at_mem : Memory → SProp 𝓤) (run : Routine → Fun 𝓤)
    (C : Calls 𝓤 𝓛.H) (Λ : Loops 𝓤 𝓛.H) (fm : FmC 𝓤 𝓛.H 𝓛.laws C)
    (gv : Triple 𝓤 (C (gives_key Z)) (Gives Z 𝓛 at_mem run))
    (pk : Triple 𝓤 (C (apart.name (one E))) (Parts E 𝓛 at_mem run))
    (α τ ρ : Lft) (qα qτ qρ : Share) (out : α ⊑ ρ) (r : Bor (P E Z).Denot) (it : (Sr E).Denot) (d : (Ti E Z).Denot)
    (rs us ts : List Val) where
  open 𝓛 use {H}

  abbrev clauses : Clauses 𝓤 (ended E Z)
  clauses = F.clauses E.row Z.row Z.g Z.d Z.drops 𝓛 at_mem run

  abbrev bound : (walk_of 𝓛 (ended E Z) (stayed E Z) clauses).Ghost
  bound = (((α, (τ, (ρ, tt))), (qα, (qτ, (qρ, tt))), (out, tt), (r, (it, (d, tt))), (rs, (us, (ts, tt)))), tt)

  abbrev Post : Val → SProp 𝓤
  Post = (walk_of 𝓛 (ended E Z) (stayed E Z) clauses).post bound

  abbrev s : ℕ
  s = sz E

  abbrev n : ℕ
  n = it.len

  abbrev bytes : ℕ
  bytes = n * capped s

  abbrev μ : Ty
  μ = block_ty E n

  exits : ent 𝓤 (⋆ 𝓛 (‵ (flft α qα) ∷ ‵ (flft τ qτ) ∷ ‵ (flft ρ qρ) ∷ [])) (Post vunit)
  exits =
      qed 𝓛 (‵ (flft α qα) ∷ ‵ (flft τ qτ) ∷ ‵ (flft ρ qρ) ∷ []) ∵
      suffices ! _ (ends_at 𝓛 (ended E Z) (stayed E Z) clauses bound vunit tt (tt, (tt, (tt, tt))) (tt, (tt, (tt, tt))))
      $
      feq_i ! (List Val) (vunit ∷ []) (vunit ∷ []) refl $
      nothing ! $ nothing ! $ fjoin ! $ nothing ! $ fjoin ! $ nothing ! $ fjoin ! $ join ! $ nothing ! $
      -- [the end of the tokens; the parameters and the result; the tokens]
      move ! (4 ∷ 0 ∷ []) $ join ! $ move ! (3 ∷ 0 ∷ []) $ join ! $ move ! (2 ∷ 0 ∷ []) $ join ! $ join ! $ nothing ! $
      move ! (1 ∷ 0 ∷ []) $ done !

  module _ (b o : ℕ) (at : it.ptr ≡ block_ptr b o) (few : n < 2 ^ 64) (small : n * s < 2 ^ 63) (leT : τ ⊑ E.row.lives)
      (leA : ρ ⊑ Z.row.lives) where
    abbrev row : Val
    row = row_val b o n

    abbrev gives : (Gives Z 𝓛 at_mem run).Ghost
    gives = at_gives Z 𝓛 at_mem run α qα r.ref_ptr r.now b o bytes (capped (align (elτ E))) μ

    abbrev had : List (Item 𝓤)
    had = ‵ ((Sr E).own_val it (row ∷ [])) ∷ ‵ (token Z r.now μ (block_ptr b o)) ∷ ‵ (seen Z α r.ref_ptr r.now)
        ∷ ‵ (flft α qα) ∷ ‵ (flft τ qτ) ∷ ‵ (flft ρ qρ) ∷ []

    walk : ent 𝓤 (⋆ 𝓛 had)
        (WpFn 𝓤 H C Λ (here E Z) (vptr r.ref_ptr.0 r.ref_ptr.1 ∷ row ∷ title_val (block_ptr b o) n ∷ []) Post)
    walk =
        let fits : n * s < 2 ^ 64 = omega arith in
        let same : bytes ≡ n * s = uncapped n s fits in
        let fb : bytes < 2 ^ 64 = omega arith in
        let alive : α ⊑ Z.row.lives = ⊑_trans α ρ Z.row.lives out leA in
        qed 𝓛 had ∵ enter ! C Λ (here E Z) _ _ $
        alloc_all !
        (λ l. pass_all ! refl
        ((tt, tt), ((tt, (tt, (record { fits = few }, tt))), ((tt, (tt, (record { fits = few }, (tt, tt)))), tt))) $
        let En : Env 𝓤 H = env (here E Z).locals l in
        first ! $ blocks ! $ sets ! (of_opd ! (get ! refl)) refl (tt, (tt, (record { fits = few }, tt))) $
        move ! (0 ∷ 4 ∷ []) $
        use2 𝓛 (raw ((Parts E 𝓛 at_mem run).pre (at_parts E 𝓛 at_mem run τ qτ it (row ∷ []))))
        (parts_goes E 𝓛 at_mem run τ qτ it (row ∷ []) leT) $
        calls_at_last ! fm (Parts E 𝓛 at_mem run) pk (at_parts E 𝓛 at_mem run τ qτ it (row ∷ []))
        (and_then ! (get ! refl) (no_more !)) (λ v.
        use1 𝓛 (later
        (some (λ (z : Ptr × ℕ). ((‵ (flft τ qτ) ⊛ ‵ ftrue) ⊛ ‵ ((Pair E 𝓛 at_mem run τ).own_val z (v ∷ []))) ⊛
        some (λ (ws : Lasts (taken_apart.ended E.row) (τ, tt) (it, tt)).
        ‵ (lasts (taken_apart.ended E.row) (τ, tt) (it, tt) ws) ⊛
        (raw (fact 𝓤 ((z.0 ≡ it.ptr) × (z.1 ≡ it.len))) ⊛ ‵ (owned (R E) it.ptr it.len it.items it.filled))))))
        (id⊢ 𝓤 _) $
        await ! tt $ pick !
        (λ z. split ! $ split ! $ split ! $ move ! (3 ∷ []) $ pick !
        (λ ws. split ! $ drop ! $ split ! $ heard ! _ (λ parts.
        -- [the memory; the second token; nothing; the pair; the right; the `&`; the other tokens]
        move ! (3 ∷ []) $ fpick !
        (λ vss. fsplit ! $ feq_l !
        (λ all. fsplit ! $ feq_l ! (λ first_is. fsplit ! $ fsplit ! $ feq_l ! (λ second_is. drop ! $ drop ! $
        let spelled : v ≡ row =
        ap only (all ∙ (λ i. vstruct (of_list (first_is i ++ (second_is i ++ []))) ∷ [])
        ∙ ap (λ (p : Ptr). words_val p z.1 ∷ []) (parts.0 ∙ at)
        ∙ ap (λ (m : ℕ). words_val (block_ptr b o) m ∷ []) parts.1) in
        let good : T (has_ty (layout (Pair E 𝓛 at_mem run τ)) v) × WT v =
        subst (λ (y : Val). T (has_ty (layout (Pair E 𝓛 at_mem run τ)) y) × WT y) (sym spelled)
        (tt, (tt, (record { fits = few }, tt))) in
        lands_last ! refl good $ exec ! C Λ En (after 1 (here E Z).body) (at_ret En Post) $
        sets ! (is ! (of_opd ! (get ! refl)) spelled) refl (tt, (tt, (record { fits = few }, tt))) $
        sets ! (of_opd ! (get_in ! (fld ! refl (stop !)) (sub ! 0 refl (whole !)))) refl (tt, tt) $
        sets ! (of_opd ! (get_in ! (fld ! refl (stop !)) (sub ! 1 refl (whole !)))) refl (tt, record { fits = few }) $
        sets ! (bin ! (get ! refl) (size_word !) (record { fits = fb })) refl (tt, record { fits = fb }) $
        first ! $ blocks ! $ sets ! (of_opd ! (get ! refl)) refl (tt, tt) $
        -- the places become room, whatever is in them
        rewrite ! 0 (λ (p : Ptr). ‵ (owned (R E) p n it.items it.filled)) at refl $ fsplit ! $ drop ! $
        use1 𝓛 (‵ (froom (ty_array (elτ E) (length it.items)) b o))
        (to_room E 𝓛 b it.items it.filled o (sym it.ok.1 ∙ it.ok.0)) $
        rewrite ! 0 (λ (k : ℕ). ‵ (froom (ty_array (elτ E) k) b o)) (sym it.ok.0) refl $
        use1 𝓛 (‵ (froom μ b o)) (𝓛.laws.room-raw (ty_array (elτ E) n) b o) $
        -- [the room; the second token; nothing; the right; the `&`; the other tokens]
        move ! (4 ∷ 5 ∷ []) $ join ! $ move ! (4 ∷ 0 ∷ []) $ join ! $ move ! (1 ∷ 0 ∷ []) $ join ! $
        use1 𝓛 (raw ((Gives Z 𝓛 at_mem run).pre gives))
        (Gives-goes Z 𝓛 at_mem run α qα r.ref_ptr r.now alive b o bytes (capped (align (elτ E))) μ
        (block_size E n fits ∙ sym same) (block_align E n) fb (capped_fits (align (elτ E)))) $
        calls_at_last ! fm (Gives Z 𝓛 at_mem run) gv gives
        (and_then ! (get ! refl)
        (and_then ! (get ! refl) (and_then ! (get ! refl) (and_then ! (align_word !) (no_more !))))) (λ u.
        use1 𝓛 (later (given (u ≡ vunit) (‵ (flft α qα))))
        (Gives-Gives Z 𝓛 at_mem run α qα r.ref_ptr r.now b o bytes (capped (align (elτ E))) μ u) $ await ! tt $
        learn ! (λ is_unit.
        lands_last ! refl (subst (λ (y : Val). T (has_ty (layout unit) y) × WT y) (sym is_unit) (tt, tt)) $
        exec ! C Λ En (after 6 (here E Z).body) (at_ret En Post) $
        sets ! (of_opd ! (unit_lit !)) refl (tt, tt) $ returns ! (look_at ! 0 refl) $ free_all ! refl $
        keep ! (0 ∷ 1 ∷ 3 ∷ []) $ by ! exits)))))))))))

  abbrev Told : Type 0
  Told = (d.start ≡ it.ptr) × (d.places ≡ it.len) × (d.alloc ≡ r.now)

  abbrev entry : Item 𝓤
  entry = (‵ (flft α qα) ⊛ ‵ (flft τ qτ) ⊛ ‵ (flft ρ qρ) ⊛ ‵ ftrue) ⊛ ‵
      (owns (types_at (ended E Z).signature.params bound.0.0) bound.0.3 bound.0.4)

  pub enters : ent 𝓤 ((walk_of 𝓛 (ended E Z) (stayed E Z) clauses).pre bound)
      (WpFn 𝓤 H C Λ (here E Z) (rs ++ (us ++ (ts ++ []))) Post)
  enters =
      qed 𝓛 (entry ∷ raw (sep 𝓤 (fact 𝓤 (τ ⊑ E.row.lives)) (sep 𝓤 (fact 𝓤 (ρ ⊑ Z.row.lives)) (fact 𝓤 Told))) ∷ []) ∵
      move ! (1 ∷ []) $
      use1 𝓛 (raw (fact 𝓤 (τ ⊑ E.row.lives)) ⊛ raw (fact 𝓤 (ρ ⊑ Z.row.lives)) ⊛ raw (fact 𝓤 Told)) (id⊢ 𝓤 _) $
      split ! $ heard ! _ (λ leT. split ! $ heard ! _ (λ leA. heard ! _ (λ told.
      split ! $ split ! $ move ! (1 ∷ []) $ split ! $ move ! (1 ∷ []) $ split ! $
      -- [the last token; nothing; the second and the first; the parameters]
      move ! (4 ∷ []) $ fsplit ! $ fsplit ! $ feq_l ! (λ here_is. keep ! (1 ∷ 0 ∷ 5 ∷ 4 ∷ 2 ∷ []) $
      -- [the slots and the title; the `&`; the three tokens]
      fsplit ! $ row_had E ! it us
      (λ b o at spelled few small. row_made E ! it b o at few small $ move ! (1 ∷ []) $ fsplit ! $
      use1 𝓛 (‵ (known 𝓛 E Z d ts)) (title_known 𝓛 E Z d ts) $ fsplit ! $ feq_l ! (λ written.
      rewrite ! 0 (λ (p : Ptr). ‵ (token Z d.alloc (block_ty E d.places) p)) (told.0 ∙ at) refl $
      rewrite ! 0 (λ (m : ℕ). ‵ (token Z d.alloc (block_ty E m) (block_ptr b o))) told.1 refl $
      rewrite ! 0 (λ (a : Z.row.Denot). ‵ (token Z a μ (block_ptr b o))) told.2 refl $
      keep ! (2 ∷ 0 ∷ 3 ∷ 4 ∷ 5 ∷ 6 ∷ []) $
      let stored : ts ≡ title_val (block_ptr b o) n ∷ [] = written
      ∙ (λ i. title_val ((told.0 ∙ at) i) (told.1 i) ∷ []) in
      by ! (subst (λ (vs : List Val). ent 𝓤 (⋆ 𝓛 (had b o at few small leT leA)) (WpFn 𝓤 H C Λ (here E Z) vs Post))
      (λ i. sym here_is i ++ (sym spelled i ++ (sym stored i ++ [])))
      (walk b o at few small leT leA))))))))

pub give_block_spec : {M : Type 1} → stated.statement M
unfolding tables_of
give_block_spec 𝓤 𝓛 𝓜 𝓡 wired X Y L LY g d dd met _ =
    let E : El = record { row = X; laws = L } in
    let Z : Al = record { row = Y; laws = LY; g = g; d = d; drops = dd } in
    let 𝓣 : Tables 𝓤 𝓛.H = tables_of 𝓤 𝓛.H 𝓜 (tables 𝓤 𝓛.H 𝓜 𝓡 𝓡.env) in
    let c = F.clauses X Y g d dd 𝓛 𝓜.mem 𝓡.returns in
    entered 𝓤 𝓛.H (triple_of 𝓛 (F.signature X Y g d dd) (F.spec X Y g d dd 𝓛 𝓜.mem 𝓡.returns)) 𝓣.C 𝓣.Λ
    (key.name (args E Z)) (here E Z) (code.unfolded 𝓤 𝓛.H 𝓜 𝓡 wired (X, (Y, tt)) d dd)
    (walk_Meets 𝓛 (ended E Z) (stayed E Z) (
      Goes-dropped 𝓛 3 (heap E Z) yes (λ κs x f. refl),
      (
        Goes-blank 𝓛 3 (plain (λ _. Sr E)) no (λ κs x f. tt),
        (Goes-blank 𝓛 3 (plain (λ _. Ti E Z)) no (λ κs x f. tt), tt),
      ),
    )
    c (WpFn 𝓤 𝓛.H 𝓣.C 𝓣.Λ (here E Z)) (WpFn-mono 𝓤 𝓛.H 𝓛.laws 𝓣 (here E Z))
    (λ z. enters E Z 𝓛 𝓜.mem 𝓡.returns 𝓣.C 𝓣.Λ (fm_of 𝓤 𝓛.H 𝓛.laws 𝓣) (met.deallocate dd)
    (apart_met.met 𝓤 𝓛 𝓜 𝓡 (code.calls-core::slots::Slots::into_raw_parts 𝓡.env wired) X L)
    z.0.0.0 z.0.0.1.0 z.0.0.1.1.0 z.0.1.0 z.0.1.1.0 z.0.1.1.1.0 z.0.2.0 z.0.3.0 z.0.3.1.0 z.0.3.1.1.0 z.0.4.0 z.0.4.1.0
    z.0.4.1.1.0))
