-- `take_block` meets its contract: a walk of its code, since the address of the memory is a raw pointer. Assumes
-- `Logic`.
use mathlib.Core.Path.{◌≡◌, refl, sym, ap, subst, ◌∙◌}
use mathlib.Core.Bool.{Bool, true, false}
use Prim.Native.Nat.{ℕ, ◌*◌, ◌<◌, ◌^◌}
use native.Mathlib.Omega.{arith}
use mathlib.Core.List.{List, [], ◌∷◌}
use lib.ListN.{length, replicate, length-replicate}
use lib.Dec.{T, lit<}
use seplogic.Ra.Ura.{Ura}
use mir.Syntax.{Ty, Fn, Body, w64, ty_array}
use mir.Val.{Val, vint, vptr, of_list, has_ty, WT}
use mir.MapTy.{inst_fn}
use base.Logic.{SProp, ent, sep, id⊢}
use base.Fml.{Lft, Share, ftrue, fsep, froom, flft}
use prog.Memory.{Memory, align, capped}
use prog.Capped.{capped_fits}
use prog.Routine.{Routine}
use prog.Wp.{Env, Calls, Loops, Wp, WpFn, Tables, after_seq, at_return}
use types.Logic.{Logic}
use contract.BorrowLft.{◌⊑◌, ⊑_trans}
use contract.Monad.{Fun, fact}
use contract.Running.{tables, tables_of}
use sound.WpLaws.{FmC, fm_of, WpFn-mono}
use types.Kit.{Item, ‵, raw, ◌⊛◌, ⋆, some, later, at_ret, any_q, Post as After, ◌$◌, ◌∵◌, !, qed, by, move, keep, drop}
use types.Kit.{use0, use1, use2, split, join, pick, rewrite, fsplit, fjoin, flt_i, suffices, await, done}
use types.Run.{stop, fld, lit, bin, size_word, align_word, no_more, and_then, of_opd, first, blocks, exec, switches_on}
use types.Run.{returns, enter}
use types.Part.{whole, agg}
use types.Match.{vrt, in_variant, live}
use types.ByLocal.{alloc_all, pass_all, free_all, look_at, get, get_in, get_tag, sets, sets_last, is, lands_as}
use types.ByLocal.{lands_last, env}
use denote.Exit.{yes}
use denote.RattleType.{RattleType, owns}
use denote.Ref.{Bor, shr_vals}
use denote.Plain.{uint_vals, uint_Tells}
use denote.Signature.{Slot, plain, types_at}
use denote.Steps.{nothing, heard, only}
use denote.Builtin.{usize, RefOf}
use denote.Triple.Call.{calls_at, calls_at_last}
use denote.Triple.Clauses.{Ended, Clauses}
use denote.Triple.Spec.{triple_of}
use denote.Triple.Statement.{Triple}
use denote.Triple.Table.{entered}
use denote.Triple.Walked.{Stays, says, stay_dropped, walk_of, ends_at, walked, Goes-dropped, walk_Meets}
use Rattle.core.proofs.mem.Param.{El, R, el_x, elτ, args as one}
use Rattle.core.proofs.alloc.Calls.{Al, Answer-typed, takes_key, Takes, at_takes, Answered, Takes-goes, Takes-gives}
use Rattle.core.proofs.alloc.Calls.{answers}
use Rattle.core.proofs.slots.Leases.{P, args, block_ty, block_size, block_align, uncapped}
use Rattle.core.proofs.slots.Places.{sz, of_room}
use Rattle.core.proofs.slots.Opens.{Sr, row_had, row_made, words_val}
use Rattle.core.proofs.alloc.Shapes.{after, front, arm_body}
use Rattle.raw_pool.proofs.BlockSteps.{Ti, Bl, title, title_val, title_made, block_val, block_made, Makes, at_makes}
use Rattle.raw_pool.proofs.BlockSteps.{makes_goes}
use Rattle.core.specs.contracts.option.Option as OP
use Rattle.core.proofs.option.Made.{Some-of, none_of}
use Rattle.core.proofs.slots.Slots.from_raw_parts.Symbol as made
use Rattle.core.proofs.slots.Slots.from_raw_parts.Met as made_met
use Rattle.core.specs.declared.option.Option.{Option}
use Rattle.core.specs.declared.option.Option.TheVariants.{None, Some}
use Rattle.core.specs.Option.{IfSome}
use Rattle.core.specs.Mem.Slots.{slots_len, slots_ptr, slots_items, slots_filled}
use Rattle.core.specs.Mem.Slots.Ownership.{slots}
use denote.RawPtr.{block_ptr}
use denote.Param.{layout}
use Rattle.raw_pool.specs.contracts.block.take_block as F
use Rattle.raw_pool.specs.contracts.block.take_block.Key as key
use Rattle.raw_pool.proofs.block.take_block.Statement as stated
use Rattle.raw_pool.proofs.block.take_block.Code as code

module _ (E : El) (Z : Al) where
  abbrev here : Fn
  here = inst_fn (args E Z) code.function

  abbrev heap : Slot 4
  heap = RefOf (0 ∷ []) tt (plain (λ _. P E Z)) (λ _. tt)

  abbrev like : Slot 4
  like = RefOf (1 ∷ []) tt (plain (λ _. R E)) (λ _. tt)

  abbrev ended : Ended
  ended = F.ended E.row Z.row Z.g Z.d Z.drops

  abbrev stayed : Stays ended.signature.params ended.kept
  stayed = (stay_dropped heap yes, (stay_dropped (plain (λ _. usize)) yes, (stay_dropped like yes, tt)))

module _ (E : El) (Z : Al) {M : Type 1} {𝓤 : Ura M} (𝓛 : Logic 𝓤) (at_mem : Memory → SProp 𝓤) (run : Routine → Fun 𝓤)
    (C : Calls 𝓤 𝓛.H) (Λ : Loops 𝓤 𝓛.H) (fm : FmC 𝓤 𝓛.H 𝓛.laws C)
    (tk : Triple 𝓤 (C (takes_key Z)) (Takes Z 𝓛 at_mem run))
    (mk : Triple 𝓤 (C (made.name (one E))) (Makes E 𝓛 at_mem run))
    (α β τ ρ : Lft) (qα qβ qτ qρ : Share) (out : α ⊑ ρ) (like_out : β ⊑ τ) (r : Bor (P E Z).Denot) (n : ℕ)
    (x : Bor (el_x E)) where
  open 𝓛 use {H}

  abbrev clauses : Clauses 𝓤 (ended E Z)
  clauses = F.clauses E.row Z.row Z.g Z.d Z.drops 𝓛 at_mem run

  abbrev bound : (walk_of 𝓛 (ended E Z) (stayed E Z) clauses).Ghost
  bound = (
    (
      (α, (β, (τ, (ρ, tt)))),
      (qα, (qβ, (qτ, (qρ, tt)))),
      (out, (like_out, tt)),
      (r, (n, (x, tt))),
      (shr_vals r, (vint w64 n ∷ [], (shr_vals x, tt))),
    ),
    tt,
  )

  abbrev vs : List Val
  vs = vptr r.ref_ptr.0 r.ref_ptr.1 ∷ vint w64 n ∷ vptr x.ref_ptr.0 x.ref_ptr.1 ∷ []

  abbrev Post : Val → SProp 𝓤
  Post = (walk_of 𝓛 (ended E Z) (stayed E Z) clauses).post bound

  -- what is told of the result
  abbrev Told : Option (Bl E Z).Denot → Type 0
  Told res =
      IfSome res
      (λ b. (slots_len b.slots ≡ n) × (b.title.start ≡ slots_ptr b.slots) × (b.title.places ≡ slots_len b.slots)
      × (b.title.alloc ≡ r.now))

  abbrev Res : RattleType
  Res = OP.the_row (Bl E Z)

  exits : (w : Val) (res : Res.Denot) → Told res
      → ent 𝓤 (⋆ 𝓛 (‵ (Res.own_val res (w ∷ [])) ∷ ‵ (flft α qα) ∷ ‵ (flft β qβ) ∷ ‵ (flft τ qτ) ∷ ‵ (flft ρ qρ) ∷ []))
      (Post w)
  exits w res told =
      qed 𝓛 (‵ (Res.own_val res (w ∷ [])) ∷ ‵ (flft α qα) ∷ ‵ (flft β qβ) ∷ ‵ (flft τ qτ) ∷ ‵ (flft ρ qρ) ∷ []) ∵
      suffices ! _ (ends_at 𝓛 (ended E Z) (stayed E Z) clauses bound w res (tt, (tt, (tt, tt))) (tt, (tt, (tt, tt)))) $
      says ! told $
      nothing ! $ nothing ! $ fjoin ! $ nothing ! $ fjoin ! $ nothing ! $ fjoin ! $ join ! $ nothing ! $
      -- [the end of the tokens; the parameters and the result; the tokens]
      move ! (5 ∷ 0 ∷ []) $ join ! $ move ! (4 ∷ 0 ∷ []) $ join ! $ move ! (3 ∷ 0 ∷ []) $ join ! $ move ! (2 ∷ 0 ∷ []) $
      join ! $ join ! $ done !

  abbrev s : ℕ
  s = sz E

  abbrev bytes : ℕ
  bytes = n * capped s

  abbrev μ : Ty
  μ = block_ty E n

  abbrev asks : (Takes Z 𝓛 at_mem run).Ghost
  asks = at_takes Z 𝓛 at_mem run α qα r.ref_ptr r.now bytes (capped (align (elτ E))) μ

  -- places without items, which stand for the item that is shown
  abbrev xs : List (el_x E)
  xs = replicate n x.now

  abbrev fs : List Bool
  fs = replicate (length xs) false

  counts : length xs ≡ n
  counts = length-replicate n x.now

  abbrev makes : ℕ → ℕ → (Makes E 𝓛 at_mem run).Ghost
  makes b o = at_makes E 𝓛 at_mem run τ qτ b o n xs fs

  abbrev Made : ℕ → ℕ → (Sr E).Denot → Type 0
  Made b o it = (slots_ptr it ≡ block_ptr b o) × (slots_len it ≡ n) × (slots_items it ≡ xs) × (slots_filled it ≡ fs)

  abbrev entry : Item 𝓤
  entry = (‵ (flft α qα) ⊛ ‵ (flft β qβ) ⊛ ‵ (flft τ qτ) ⊛ ‵ (flft ρ qρ) ⊛ ‵ ftrue) ⊛ ‵
      (owns (types_at (ended E Z).signature.params bound.0.0) bound.0.3 bound.0.4)

  walk : n < 2 ^ 64 → ent 𝓤 ((walk_of 𝓛 (ended E Z) (stayed E Z) clauses).pre bound) (WpFn 𝓤 H C Λ (here E Z) vs Post)
  walk fn =
      qed 𝓛 (entry ∷ raw (sep 𝓤 (fact 𝓤 (τ ⊑ E.row.lives)) (sep 𝓤 (fact 𝓤 (ρ ⊑ Z.row.lives)) (fact 𝓤 (n * s < 2 ^ 63))))
      ∷ []) ∵ move ! (1 ∷ []) $
      use1 𝓛 (raw (fact 𝓤 (τ ⊑ E.row.lives)) ⊛ raw (fact 𝓤 (ρ ⊑ Z.row.lives)) ⊛ raw (fact 𝓤 (n * s < 2 ^ 63))) (id⊢ 𝓤 _)
      $
      split ! $ heard ! _ (λ leT. split ! $ heard ! _ (λ leA. heard ! _ (λ fit.
      let fits : n * s < 2 ^ 64 = omega arith in
      let same : bytes ≡ n * s = uncapped n s fits in
      let fb : bytes < 2 ^ 64 = omega arith in
      let alive : α ⊑ Z.row.lives = ⊑_trans α ρ Z.row.lives out leA in
      split ! $ split ! $ move ! (1 ∷ []) $ split ! $ move ! (1 ∷ []) $ split ! $ move ! (1 ∷ []) $ split ! $
      -- [the last token; nothing; the third, the second and the first; the parameters]
      move ! (5 ∷ []) $ fsplit ! $ fsplit ! $ keep ! (1 ∷ 7 ∷ 6 ∷ 5 ∷ 3 ∷ []) $
      -- [the `&`; the four tokens]
      enter ! C Λ (here E Z) vs _ $ alloc_all !
      (λ l. pass_all ! refl ((tt, tt), ((tt, record { fits = fn }), ((tt, tt), tt))) $
      let En : Env 𝓤 H = env (here E Z).locals l in
      let from : ℕ
      → After 𝓤 H = λ k.
      any_q (after_seq 𝓤 H (Wp 𝓤 H C Λ En (after k (here E Z).body) (at_return 𝓤 H En Post))
      (at_return 𝓤 H En Post)) in
      let choice : Body = front (after 2 (here E Z).body) in
      sets ! (bin ! (get ! refl) (size_word !) (record { fits = fb })) refl (tt, record { fits = fb }) $
      move ! (0 ∷ 1 ∷ []) $
      use2 𝓛 (raw ((Takes Z 𝓛 at_mem run).pre asks))
      (Takes-goes Z 𝓛 at_mem run α qα r.ref_ptr r.now alive bytes (capped (align (elτ E))) μ (block_size E n fits
      ∙ sym same) (block_align E n) fb (capped_fits (align (elτ E)))) $
      calls_at ! fm (Takes Z 𝓛 at_mem run) tk asks
      (and_then ! (get ! refl) (and_then ! (get ! refl) (and_then ! (align_word !) (no_more !)))) (λ v.
      use1 𝓛 (later (raw (Answered Z 𝓛 at_mem run r.now μ v) ⊛ ‵ (flft α qα)))
      (Takes-gives Z 𝓛 at_mem run α qα r.ref_ptr r.now bytes (capped (align (elτ E))) μ v) $ await ! tt $ split ! $
      answers Z ! at_mem run r.now μ v
      (λ b o e. lands_as ! e refl (Answer-typed true b o) $
      first ! $ switches_on ! (get_tag ! (vrt ! refl (fld ! refl (stop !))) (whole !)) $ exec ! C Λ En
      (arm_body 0 choice) (from 3) $
      sets ! (of_opd ! (get_in ! (vrt ! refl (fld ! refl (stop !))) (in_variant ! 0 0 refl refl (whole !)))) refl
      (tt, tt) $
      sets ! (of_opd ! (get ! refl)) refl (tt, tt) $
      -- the room becomes places without items
      use1 𝓛 (‵ (froom (ty_array (elτ E) n) b o)) (𝓛.laws.raw-room (ty_array (elτ E) n) b o) $
      rewrite ! 0 (λ (k : ℕ). ‵ (froom (ty_array (elτ E) k) b o)) (sym counts) refl $
      use1 𝓛 (‵ (slots (R E) (block_ptr b o) xs fs)) (of_room E 𝓛 b xs o) $ flt_i ! (n * s) (2 ^ 63) fit $ fjoin ! $
      move ! (0 ∷ 4 ∷ []) $
      use2 𝓛 (raw ((Makes E 𝓛 at_mem run).pre (makes b o)))
      (makes_goes E 𝓛 at_mem run τ qτ b o n xs fs leT fn
      (sym counts, sym (length-replicate (length xs) false ∙ counts))) $
      first ! $ blocks ! $ calls_at_last ! fm (Makes E 𝓛 at_mem run) mk (makes b o)
      (and_then ! (get ! refl) (and_then ! (get ! refl) (no_more !))) (λ w.
      use1 𝓛 (later (some (λ (it : (Sr E).Denot). ((‵ (flft τ qτ) ⊛ ‵ ftrue) ⊛ ‵ ((Sr E).own_val it (w ∷ []))) ⊛
      some (λ (ws : Unit {0} × (Unit {0} × Unit {0})).
      ‵ (fsep ftrue (fsep ftrue ftrue)) ⊛ raw (fact 𝓤 (Made b o it)))))) (id⊢ 𝓤 _) $
      await ! tt $ pick !
      (λ it. split ! $ split ! $ split ! $ move ! (3 ∷ []) $ pick ! (λ ws. split ! $ drop ! $ heard ! _ (λ is_made.
      -- [the third token; nothing; the slots; the right to the block; the other tokens]
      move ! (2 ∷ []) $ row_had E ! it (w ∷ []) (λ b' o' at spelled few small. row_made E ! it b' o' at few small $
      let good : T (has_ty (layout (Sr E)) w) × WT w =
      subst (λ (u : Val). T (has_ty (layout (Sr E)) u) × WT u) (sym (ap only spelled))
      (tt, (tt, (record { fits = few }, tt))) in
      lands_last ! refl good $ exec ! C Λ En (after 3 (arm_body 0 choice)) (from 3) $
      sets ! (is ! (of_opd ! (get ! refl)) (ap only spelled)) refl (tt, (tt, (record { fits = few }, tt))) $
      sets ! (agg ! (no_more !)) refl (tt, tt) $
      sets ! (agg ! (and_then ! (get ! refl) (and_then ! (get ! refl) (and_then ! (get ! refl) (no_more !))))) refl
      (tt, (tt, (record { fits = fn }, (tt, tt)))) $
      sets ! (of_opd ! (get ! refl)) refl (tt, (tt, (record { fits = few }, tt))) $
      sets ! (of_opd ! (get ! refl)) refl (tt, (tt, (record { fits = fn }, (tt, tt)))) $
      sets ! (agg ! (and_then ! (get ! refl) (and_then ! (get ! refl) (no_more !)))) refl
      (tt, ((tt, (record { fits = few }, tt)), ((tt, (record { fits = fn }, (tt, tt))), tt))) $
      sets_last ! (agg ! (and_then ! (lit ! tt) (and_then ! (get ! refl) (no_more !)))) refl (
        tt,
        (
          record { fits = lit< tt },
          (((tt, (record { fits = few }, tt)), ((tt, (record { fits = fn }, (tt, tt))), tt)), tt),
        ),
      ) $
      exec ! C Λ En (after 3 (here E Z).body) (at_ret En Post) $
      sets ! (of_opd ! (get ! refl)) refl (
        tt,
        (
          record { fits = lit< tt },
          (((tt, (record { fits = few }, tt)), ((tt, (record { fits = fn }, (tt, tt))), tt)), tt),
        ),
      ) $
      returns ! (look_at ! 0 refl) $ free_all ! refl $
      let held : (Ti E Z).Denot = title E Z r.now b o n in
      let right_val : Val = title_val (block_ptr b o) n in
      let slots_val : Val = words_val (block_ptr b' o') it.len in
      let value : Val = block_val slots_val right_val in
      let made_block : (Bl E Z).Denot = record { slots = it; title = held } in
      move ! (3 ∷ []) $
      use1 𝓛 (‵ ((Ti E Z).own_val held (right_val ∷ []))) (title_made 𝓛 E Z b o n fn r.now) $ move ! (1 ∷ 0 ∷ []) $
      use2 𝓛 (‵ ((Bl E Z).own_val made_block (value ∷ []))) (block_made 𝓛 E Z it slots_val held right_val) $
      -- [the block; the third token; nothing; the other tokens]
      use1 𝓛 (‵ (Res.own_val (Some made_block) (live 1 (of_list (value ∷ [])) ∷ [])))
      (Some-of 𝓛 (Bl E Z) made_block value) $
      keep ! (0 ∷ 3 ∷ 4 ∷ 1 ∷ 5 ∷ []) $
      by ! (exits (live 1 (of_list (value ∷ []))) (Some made_block)
      (is_made.1, sym is_made.0, sym is_made.1, refl))))))))
      (λ e. lands_as ! e refl (Answer-typed false 0 0) $
      first ! $ switches_on ! (get_tag ! (vrt ! refl (fld ! refl (stop !))) (whole !)) $ exec ! C Λ En
      (arm_body 1 choice) (from 3) $
      sets_last ! (agg ! (and_then ! (lit ! tt) (no_more !))) refl (tt, (record { fits = lit< tt }, tt)) $
      exec ! C Λ En (after 3 (here E Z).body) (at_ret En Post) $ sets ! (of_opd ! (get ! refl)) refl
      (tt, (record { fits = lit< tt }, tt)) $
      returns ! (look_at ! 0 refl) $ free_all ! refl $
      use0 𝓛 (‵ (Res.own_val None (live 0 (of_list []) ∷ []))) (none_of 𝓛 (Bl E Z)) $ by !
      (exits (live 0 (of_list [])) None tt)))))))

pub take_block_spec : {M : Type 1} → stated.statement M
unfolding tables_of
take_block_spec 𝓤 𝓛 𝓜 𝓡 wired X Y L LY g d dd met _ =
    let E : El = record { row = X; laws = L } in
    let Z : Al = record { row = Y; laws = LY; g = g; d = d; drops = dd } in
    let 𝓣 : Tables 𝓤 𝓛.H = tables_of 𝓤 𝓛.H 𝓜 (tables 𝓤 𝓛.H 𝓜 𝓡 𝓡.env) in
    let c = F.clauses X Y g d dd 𝓛 𝓜.mem 𝓡.returns in
    entered 𝓤 𝓛.H (triple_of 𝓛 (F.signature X Y g d dd) (F.spec X Y g d dd 𝓛 𝓜.mem 𝓡.returns)) 𝓣.C 𝓣.Λ
    (key.name (args E Z)) (here E Z) (code.unfolded 𝓤 𝓛.H 𝓜 𝓡 wired (X, (Y, tt)) d dd)
    (walk_Meets 𝓛 (ended E Z) (stayed E Z) (
      Goes-dropped 𝓛 4 (heap E Z) yes (λ κs x f. refl),
      (
        Goes-dropped 𝓛 4 (plain (λ _. usize)) yes (λ κs x f. refl),
        (Goes-dropped 𝓛 4 (like E Z) yes (λ κs x f. refl), tt),
      ),
    )
    c (WpFn 𝓤 𝓛.H 𝓣.C 𝓣.Λ (here E Z)) (WpFn-mono 𝓤 𝓛.H 𝓛.laws 𝓣 (here E Z))
    (walked 𝓛 (ended E Z) (stayed E Z) c (WpFn 𝓤 𝓛.H 𝓣.C 𝓣.Λ (here E Z))
    (λ κs. (shr_vals, (uint_vals w64, (shr_vals, tt))))
    (λ κs. ((λ r vs s. s.0), (uint_Tells w64, ((λ r vs s. s.0), tt))))
    (λ κs qs bounds a _ are. walk E Z 𝓛 𝓜.mem 𝓡.returns 𝓣.C 𝓣.Λ (fm_of 𝓤 𝓛.H 𝓛.laws 𝓣) (met.allocate dd)
    (made_met.met 𝓤 𝓛 𝓜 𝓡 (code.calls-core::slots::Slots::from_raw_parts 𝓡.env wired) X L)
    κs.0 κs.1.0 κs.1.1.0 κs.1.1.1.0 qs.0 qs.1.0 qs.1.1.0 qs.1.1.1.0 bounds.0 bounds.1.0 a.0 a.1.0 a.1.1.0 are.1.0.1)))
