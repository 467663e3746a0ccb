-- How a machine leaves a body: it has the result, its homes and its frame are as the caller had them, and it goes to
-- the return address.
use Rattle.std.proofs.Common.{◌≡◌, ◌∙◌, ◌⊎◌, inl, inr, ℕ, ◌+◌, ◌*◌, ◌^◌, ◌<◌, ◌≤◌, pos, ◌+ℤ◌, List, [], ◌∷◌, ◌++◌}
use Rattle.std.proofs.Common.{length, take, drop, Some, arith, refl, ap, sym, subst, slice_get, length-append}
use Rattle.std.proofs.Common.{length-take}
use Rattle.num_core.specs.Bits.{low_bits}
use Rattle.num_core.specs.Run.{Running, Streams, after}
use Rattle.rv_isa.specs.declared.ins.Ins.{Ins}
use Rattle.rv_step.specs.Machine.{MachineState, machine_step, register, without_bit_0}
use Rattle.rv_step.specs.Memory.{MayRead, is_allowed}
use Rattle.rv_code.specs.Code.{AllLegal, BlockAt}
use Rattle.rv_code.specs.Registers.{HasRegisters}
use Rattle.rv_code.proofs.Going.{block_parts, legal_parts}
use Rattle.rt_code.proofs.Machines.{sum_of}
use Rattle.lir_core.specs.declared.body.LirBody.{LirBody}
use Rattle.lir_core.specs.declared.op.Block.{Block}
use Rattle.rv_lines.specs.Frame.{home_count, homes_at, return_at}
use Rattle.rv_lines.specs.Operands.{gets_address}
use Rattle.rv_lines.specs.declared.line.Line.{Line}
use Rattle.rv_lines.specs.declared.line.Line.TheVariants.{Single}
use Rattle.rv_gen.specs.Calling.{gives_result, restores_homes, returns}
use Rattle.rv_words.specs.Linked.{linked}
use Rattle.rv_words.specs.Placing.{HasProgram, IsPlacing, Placing}
use Rattle.rv_words.specs.Words.{homes_of, saved, word_at}
use Rattle.rv_words.proofs.Branches.{has_all}
use Rattle.rv_words.proofs.ConstantCode.{address_code, address_short, address_singles, got_address, got_load, singles}
use Rattle.rv_words.proofs.ConstantCode.{singles_append}
use Rattle.rv_words.proofs.Going.{Goes, goes_on}
use Rattle.rv_words.proofs.Got.{Got}
use Rattle.rv_words.proofs.Kept.{word_same}
use Rattle.rv_words.proofs.Lines.{AtLines, at_behind, at_equal, first_code}
use Rattle.rv_words.proofs.LinkedCode.{longest_of, size_of}
use Rattle.rv_words.proofs.Places.{far_of}
use Rattle.rv_words.proofs.RaiseLaws.{GoesOut, goes_out}
use Rattle.rv_words.proofs.Reading.{word_small}
use Rattle.rv_words.proofs.Restoring.{AreSaved, Restored, listed_parts, restore_code, restore_length, restore_singles}
use Rattle.rv_words.proofs.Restoring.{restored, saved_at}
use Rattle.rv_words.proofs.Room.{HasRoom, below_all, in_data, may_read}
use Rattle.rv_words.proofs.Standing.{homes_in}

-- the instructions behind those that give the result
abbrev pub leave_code : LirBody → List Ins
leave_code body =
    restore_code 0 (take home_count body.vars) ++ Ins.Ld 1 2 (pos return_at)
    ∷ (address_code 2 2 body.frame ++ Ins.Jalr 0 1 (pos 0) ∷ [])

abbrev pub leave_lines : LirBody → List Line
leave_lines body =
    restores_homes 0 (take home_count body.vars) ++ Single (Ins.Ld 1 2 (pos return_at))
    ∷ (gets_address 2 2 body.frame ++ Single (Ins.Jalr 0 1 (pos 0)) ∷ [])

leave_singles : (body : LirBody) → leave_lines body ≡ singles (leave_code body)
leave_singles body =
    let homes : List ℕ = take home_count body.vars in
    let last : List Ins = Ins.Jalr 0 1 (pos 0) ∷ [] in
    let own : List Ins = address_code 2 2 body.frame in
    let ld : Ins = Ins.Ld 1 2 (pos return_at) in
    ap (λ xs. xs ++ Single ld ∷ (gets_address 2 2 body.frame ++ singles last)) (restore_singles 0 homes)
    ∙ ap (λ xs. singles (restore_code 0 homes) ++ Single ld ∷ (xs ++ singles last)) (address_singles 2 2 body.frame)
    ∙ ap (λ xs. singles (restore_code 0 homes) ++ Single ld ∷ xs) (sym (singles_append own last))
    ∙ sym (singles_append (restore_code 0 homes) (ld ∷ (own ++ last)))

-- The machine has come to the return address. x10 has the result, x2 lies behind the frame, and the homes are as they
-- were saved.
pub record Left (body : LirBody) (value ret : ℕ) (m : MachineState) : Type 0 where
  pub new : MachineState
  pub count : ℕ
  pub some : 0 < count
  pub few : count ≤ 17
  pub runs : (streams : Streams) → after machine_step count (Running m streams) ≡ Running new streams
  pub pc : new.pc ≡ ret
  pub result : register new 10 ≡ value
  pub frame : register new 2 ≡ register m 2 + body.frame
  pub homes : homes_in new ≡ saved m (register m 2) (homes_of body) ++ drop (homes_of body) (homes_in m)
  pub lowest : register new 26 ≡ register m 26
  pub heap : register new 27 ≡ register m 27
  pub registers : HasRegisters new
  pub memory : new.segments ≡ m.segments

pub left : (placing : Placing) (begin : ℕ) (body : LirBody) (block : Block) (far_at k value ret : ℕ) (m : MachineState)
    → IsPlacing placing → HasProgram placing m → HasRoom placing (register m 2) body
    → AtLines placing.program begin body far_at k (returns body block) m
    → (g : Got begin (linked placing.program begin body)
    (k + size_of (far_of body) far_at (gives_result body.vars block)) 4 10 value m)
    → word_at m (register m 2 + return_at) ≡ ret → without_bit_0 ret ≡ ret → Left body value ret m
left placing begin body block far_at k value ret m is has room at g word even =
    record {
      new = new;
      count = count + 1;
      some = omega arith;
      few = omega (arith, few);
      runs = out.runs;
      pc = refl;
      result = ad.others 10 (λ e. omega (arith, e)) (λ e. omega (arith, e))
          ∙ ld.others 10 (λ e. omega (arith, e)) (λ e. omega (arith, e))
          ∙ r.others 10 (inl (omega arith)) (λ e. omega (arith, e)) ∙ g.has;
      frame = ad.has ∙ sum_of (register m 2) body.frame (omega (arith, top));
      homes = listed_parts (register new) (λ j. word_at m (register m 2 + homes_at + 8 * j)) (register m) 18 0 8 n
          few_homes
          (λ j less. kept (18 + j) (λ e. omega (arith, e)) (λ e. omega (arith, e))
          (λ e. omega (arith, e, less, few_homes))
          ∙ r.homes j (omega arith) (omega (arith, less)) ∙ saved_same j)
          (λ j low less. kept (18 + j) (λ e. omega (arith, e)) (λ e. omega (arith, e)) (λ e. omega (arith, e, less))
          ∙ r.others (18 + j) (inr (omega (arith, low))) (λ e. omega (arith, e, less))
          ∙ g.others (18 + j) (λ e. omega (arith, e)) (λ e. omega (arith, e, less)));
      lowest = kept 26 (λ e. omega (arith, e)) (λ e. omega (arith, e)) (λ e. omega (arith, e))
          ∙ r.others 26 (inr (omega (arith, few_homes))) (λ e. omega (arith, e))
          ∙ g.others 26 (λ e. omega (arith, e)) (λ e. omega (arith, e));
      heap = kept 27 (λ e. omega (arith, e)) (λ e. omega (arith, e)) (λ e. omega (arith, e))
          ∙ r.others 27 (inr (omega (arith, few_homes))) (λ e. omega (arith, e))
          ∙ g.others 27 (λ e. omega (arith, e)) (λ e. omega (arith, e));
      registers = has_all ad.new ret ad.registers;
      memory = ad.memory ∙ ld.memory ∙ r.memory ∙ g.memory;
    }
  where
    code : List Ins
    code = linked placing.program begin body

    homes : List ℕ
    homes = take home_count body.vars

    n : ℕ
    n = length homes

    few_homes : n ≤ 8
    few_homes = omega (arith, length-take 8 body.vars)

    top : register m 2 + body.frame + 128 ≤ 2 ^ 64
    top = below_all placing (register m 2) body is room

    least : 192 ≤ body.frame
    least = body.frame_size.least

    greatest : body.frame ≤ 65536
    greatest = body.frame_size.greatest

    -- a word among the fixed bytes
    fixed : (d : ℕ) → d + 8 ≤ 128 → MayRead m (register m 2 + d) 8 × (word_at m (register m 2 + d) < 2 ^ 64)
    fixed d h =
        let inside = in_data placing (register m 2) body (register m 2 + d) 8 is room (omega arith)
        (omega (arith, h, least)) in (
          may_read placing m (register m 2) body (register m 2 + d) 8 is has room (omega arith)
              (omega (arith, h, least)),
          word_small placing m (register m 2 + d) has inside.0 inside.1,
        )

    k1 : ℕ
    k1 = k + size_of (far_of body) far_at (gives_result body.vars block)

    first : BlockAt code k1 (leave_code body) × AllLegal (leave_code body)
    first =
        let there = at_behind placing.program begin body far_at k g.count (gives_result body.vars block)
        (leave_lines body) m g.new at g.goes g.registers in
        first_code placing.program begin body
        (far_at + longest_of (gives_result body.vars block)) k1 (leave_code body) g.new
        (at_equal placing.program begin body (far_at + longest_of (gives_result body.vars block)) k1 (leave_lines body)
        (singles (leave_code body)) g.new (leave_singles body) there)

    last : List Ins
    last = Ins.Ld 1 2 (pos return_at) ∷ (address_code 2 2 body.frame ++ Ins.Jalr 0 1 (pos 0) ∷ [])

    blocks : BlockAt code k1 (restore_code 0 homes) × BlockAt code (k1 + length (restore_code 0 homes)) last
    blocks = block_parts code k1 (restore_code 0 homes) last first.0

    legals : AllLegal (restore_code 0 homes) × AllLegal last
    legals = legal_parts (restore_code 0 homes) last first.1

    frame_now : register g.new 2 ≡ register m 2
    frame_now = g.others 2 (λ e. omega (arith, e)) (λ e. omega (arith, e))

    saved_now : AreSaved g.new
    saved_now j less =
        let there : saved_at g.new j ≡ register m 2 + (8 + 8 * j) = ap (λ x. x + (8 + 8 * j)) frame_now in
        let mine = fixed (8 + 8 * j) (omega (arith, less)) in (
          subst (λ a. MayRead g.new a 8) (sym there)
              (ap (λ ss. is_allowed (λ s. s.read) ss (register m 2 + (8 + 8 * j)) 8) g.memory ∙ mine.0),
          subst (λ a. word_at g.new a < 2 ^ 64) (sym there)
              (subst (λ w. w < 2 ^ 64) (sym (word_same m g.new (register m 2 + (8 + 8 * j)) g.memory)) mine.1),
        )

    saved_same : (j : ℕ) → word_at g.new (saved_at g.new j) ≡ word_at m (register m 2 + homes_at + 8 * (0 + j))
    saved_same j =
        let there : saved_at g.new j ≡ register m 2 + homes_at + 8 * (0 + j) = omega (arith, frame_now) in
        ap (word_at g.new) there ∙ word_same m g.new (register m 2 + homes_at + 8 * (0 + j)) g.memory

    r : Restored begin code (k1 + n) n 0 g.new
    r =
        restored begin code k1 0 homes g.new g.goes.code_at g.goes.pc blocks.0 legals.0 (omega (arith, few_homes))
        (omega (arith, frame_now, top, least)) saved_now g.registers

    k2 : ℕ
    k2 = k1 + n

    there_2 : BlockAt code k2 last
    there_2 = subst (λ p. BlockAt code (k1 + p) last) (restore_length 0 homes) blocks.1

    frame_2 : register r.new 2 ≡ register m 2
    frame_2 = r.others 2 (inl (omega arith)) (λ e. omega (arith, e)) ∙ frame_now

    memory_2 : r.new.segments ≡ m.segments
    memory_2 = r.memory ∙ g.memory

    back : register m 2 + return_at ≡ register m 2 + 0
    back = refl

    small : ret < 2 ^ 64
    small = subst (λ w. w < 2 ^ 64) word (fixed 0 (omega arith)).1

    ld : Got begin code (k2 + 1) 1 1 ret r.new
    ld =
        got_load begin code k2 1 2 0 (register m 2 + 0) ret r.new r.goes.code_at r.goes.pc there_2.0 legals.1.0
        (omega arith) (omega arith) (ap (λ x. x + 0) frame_2) (omega (arith, top))
        (ap (λ ss. is_allowed (λ s. s.read) ss (register m 2 + 0) 8) memory_2 ∙ (fixed 0 (omega arith)).0)
        (word_same m r.new (register m 2 + 0) memory_2 ∙ word) small r.registers

    own : List Ins
    own = address_code 2 2 body.frame

    jump : List Ins
    jump = Ins.Jalr 0 1 (pos 0) ∷ []

    blocks_3 : BlockAt code (k2 + 1) own × BlockAt code (k2 + 1 + length own) jump
    blocks_3 = block_parts code (k2 + 1) own jump there_2.1

    legals_3 : AllLegal own × AllLegal jump
    legals_3 = legal_parts own jump legals.1.1

    frame_3 : register ld.new 2 ≡ register m 2
    frame_3 = ld.others 2 (λ e. omega (arith, e)) (λ e. omega (arith, e)) ∙ frame_2

    ad : Got begin code (k2 + 1 + length own) (length own) 2 (low_bits 64 (pos (register m 2) +ℤ pos body.frame)) ld.new
    ad =
        got_address begin code (k2 + 1) 2 2 body.frame (register m 2) ld.new ld.goes.code_at ld.goes.pc blocks_3.0
        legals_3.0 (omega arith) (omega arith) (λ e. omega (arith, e)) frame_3 (omega (arith, greatest)) ld.registers

    new : MachineState
    new = record ad.new { pc = ret }

    count : ℕ
    count = g.count + (n + (ld.count + ad.count))

    few : count ≤ 16
    few =
        let a : g.count ≤ 4 = g.few in
        let b : ld.count ≤ 1 = ld.few in
        let c : ad.count ≤ length own = ad.few in
        let d : length own ≤ 3 = address_short 2 2 body.frame (omega (arith, greatest)) in
        omega (arith, a, b, c, d, few_homes)

    way : Goes begin code (k2 + 1 + length own) count m ad.new
    way =
        goes_on begin code k1 (k2 + 1 + length own) g.count (n + (ld.count + ad.count)) m g.new ad.new g.goes
        (goes_on begin code k2 (k2 + 1 + length own) n (ld.count + ad.count) g.new r.new ad.new r.goes
        (goes_on begin code (k2 + 1) (k2 + 1 + length own) ld.count ad.count r.new ld.new ad.new ld.goes ad.goes))

    goes_back : without_bit_0 (low_bits 64 (pos (register ad.new 1) +ℤ pos 0)) ≡ ret
    goes_back =
        let x1 : register ad.new 1 ≡ ret = ad.others 1 (λ e. omega (arith, e)) (λ e. omega (arith, e)) ∙ ld.has in
        ap (λ x. without_bit_0 (low_bits 64 (pos x +ℤ pos 0))) x1
        ∙ ap without_bit_0 (sum_of ret 0 (omega (arith, small)) ∙ (let e : ret + 0 ≡ ret = omega arith in e)) ∙ even

    out : GoesOut begin code (count + 1) m new
    out =
        goes_out begin code (k2 + 1 + length own) count (Ins.Jalr 0 1 (pos 0)) m ad.new new way blocks_3.1.0
        legals_3.1.0
        (λ ss. ap (λ p. Running (record ad.new { pc = p }) ss) goes_back)

    -- no register has changed since the homes were restored but x1, x2 and x28
    kept : (q : ℕ) → (q ≡ 1 → ⊥) → (q ≡ 2 → ⊥) → (q ≡ 28 → ⊥) → register new q ≡ register r.new q
    kept q a b c = ad.others q b c ∙ ld.others q a c
