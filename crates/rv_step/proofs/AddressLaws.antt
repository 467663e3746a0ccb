-- What loads, stores, fetching and calls of the environment do with bytes at addresses.
use Rattle.std.proofs.Common.{◌≡◌, ◌∙◌, refl, sym, ap, subst, ℕ, ◌+◌, ◌-◌, ◌%◌, ◌^◌, ◌<◌, ◌≤◌, ◌⊎◌, inl, inr, Bool}
use Rattle.std.proofs.Common.{true, cond, ◌==◌, min, List, [], length, take, drop, get_or, Some, None, append-nil}
use Rattle.std.proofs.Common.{length-append, length-take, length-drop, arith}
use Rattle.std.specs.Prelude.{slice_index}
use Rattle.std.specs.Option.{option_map}
use Rattle.std.proofs.lemmas.Bool.{cases_lt}
use Rattle.std.proofs.lemmas.List.{get_or-append_right, get_or-drop, drop_min}
use Rattle.byteorder.specs.Endian.{little_number, little_bytes}
use Rattle.byteorder.specs.Numbers.{little_number-reads_back, length-bytes_low_first}
use Rattle.num_core.specs.Run.{Running, Streams}
use Rattle.rv_step.specs.Machine.{MachineState, register, with_register, next_pc, bytes_at, with_bytes_at, gives}
use Rattle.rv_step.specs.Machine.{gives_loaded, loads, stores, goes_on_with, traps, fetched, filled, reads, reads_into}
use Rattle.rv_step.specs.Machine.{goes_on_read, writes}
use Rattle.rv_step.specs.Memory.{byte_in, Bytes, Number, is_allowed, MayRead, MayWrite, MayExecute, AreApart, Writes}
use Rattle.rv_step.specs.Segments.{AreSegments}
use Rattle.rv_step.specs.declared.segment.Segment.{Segment}
use Rattle.rv_step.specs.declared.trap.Cause.TheVariants.{Load, Store}
use Rattle.rv_step.proofs.Addresses.{parted, from_each, at_each, one_reading, split, read_at, read_bytes, readable}
use Rattle.rv_step.proofs.Addresses.{unreadable, writable, unwritable, written_at, kept_at, written_bytes}
use Rattle.rv_step.proofs.Addresses.{allows_the_same, segments_kept, before_or_behind, writes_by}
use Rattle.rv_step.proofs.Requests.{not_zero, writes_some}

reads_back : (count number : ℕ) → number < 256 ^ count → little_number count (little_bytes count number) ≡ number
reads_back count number fits =
    ap (little_number count) (sym (append-nil (little_bytes count number)))
    ∙ little_number-reads_back count number [] fits

pub read_there : (allows : Segment → Bool) (m : MachineState) (address count : ℕ) (bytes : List ℕ)
    → AreSegments m.segments → length bytes ≡ count → is_allowed allows m.segments address count ≡ true
    → Bytes m address bytes → bytes_at allows address count m.segments ≡ Some bytes
read_there allows m address count bytes segments size may there =
    let found = readable allows address count m.segments may in
    found.1
    ∙ ap Some (one_reading m address found.0 bytes (found.2 ∙ sym size)
    (read_bytes allows m address count found.0 segments found.1 found.2) there)

pub loads_by : (m : MachineState) (rd count address : ℕ) (bytes : List ℕ) (value : ℕ → ℕ) (streams : Streams)
    → AreSegments m.segments → length bytes ≡ count → MayRead m address count → Bytes m address bytes
    → loads m rd count address value streams ≡ gives m rd (value (little_number count bytes)) streams
loads_by m rd count address bytes value streams segments size may there =
    ap (λ o. gives_loaded m rd (option_map (λ xs. value (little_number count xs)) o) streams)
    (read_there (λ s. s.read) m address count bytes segments size may there)

pub loads_number : (m : MachineState) (rd count address number : ℕ) (value : ℕ → ℕ) (streams : Streams)
    → AreSegments m.segments → number < 256 ^ count → MayRead m address count → Number m address count number
    → loads m rd count address value streams ≡ gives m rd (value number) streams
loads_number m rd count address number value streams segments fits may there =
    loads_by m rd count address (little_bytes count number) value streams segments
    (length-bytes_low_first 0 count number) may there
    ∙ ap (λ n. gives m rd (value n) streams) (reads_back count number fits)

pub not_loaded : (m : MachineState) (rd count address : ℕ) (value : ℕ → ℕ) (streams : Streams)
    → (MayRead m address count → ⊥) → loads m rd count address value streams ≡ traps m Load streams
not_loaded m rd count address value streams refused =
    ap (λ o. gives_loaded m rd (option_map (λ xs. value (little_number count xs)) o) streams)
    (unreadable (λ s. s.read) address count m.segments refused)

pub stored : (m : MachineState) (count address value : ℕ) (streams : Streams) → AreSegments m.segments
    → MayWrite m address count
    → (new : MachineState) × (stores m count address value streams ≡ Running new streams) × (new.pc ≡ next_pc m)
    × (new.registers ≡ m.registers) × Writes address (little_bytes count value) m new
stored m count address value streams segments may =
    let bytes : List ℕ = little_bytes count value in
    let size : length bytes ≡ count = length-bytes_low_first 0 count value in
    let there = writable (λ s. s.write) address bytes m.segments
    (subst (λ n. is_allowed (λ s. s.write) m.segments address n ≡ true) (sym size) may) in
    let new : MachineState = record { pc = next_pc m; registers = m.registers; segments = there.0 } in (
      new,
      ap (λ o. goes_on_with m o streams) there.1,
      refl,
      refl,
      writes_by (λ s. s.write) address bytes m new segments there.1,
    )

pub not_stored : (m : MachineState) (count address value : ℕ) (streams : Streams) → (MayWrite m address count → ⊥)
    → stores m count address value streams ≡ traps m Store streams
not_stored m count address value streams refused =
    let size : length (little_bytes count value) ≡ count = length-bytes_low_first 0 count value in
    ap (λ o. goes_on_with m o streams)
    (unwritable (λ s. s.write) address (little_bytes count value) m.segments
    (λ may. refused (subst (λ n. is_allowed (λ s. s.write) m.segments address n ≡ true) size may)))

pub fetched_by : (m : MachineState) (word : ℕ) → AreSegments m.segments → word < 2 ^ 32 → m.pc % 4 ≡ 0
    → MayExecute m m.pc 4 → Number m m.pc 4 word → fetched m ≡ Some word
fetched_by m word segments fits even may there =
    ap (λ n. cond (n == 0) (option_map (little_number 4) (bytes_at (λ s. s.execute) m.pc 4 m.segments)) None) even
    ∙ ap (option_map (little_number 4))
    (read_there (λ s. s.execute) m m.pc 4 (little_bytes 4 word) segments (length-bytes_low_first 0 4 word) may there)
    ∙ ap Some (reads_back 4 word fits)

pub written_by : (m : MachineState) (to : List ℕ → Streams → Streams) (bytes : List ℕ) (streams : Streams)
    → AreSegments m.segments → (register m 12 ≡ 0 → ⊥) → length bytes ≡ register m 12
    → MayRead m (register m 11) (register m 12) → Bytes m (register m 11) bytes
    → writes m to streams ≡ gives m 10 (register m 12) (to bytes streams)
written_by m to bytes streams segments some size may there =
    writes_some m to bytes some
    (sym (read_there (λ s. s.read) m (register m 11) (register m 12) bytes segments size may there)) streams

-- ---- reading input

-- behind the input a buffer is as before
filled_behind : (input buffer : List ℕ) (i : ℕ) → length (take (length buffer) input) ≤ i → i < length buffer
    → slice_index (filled input buffer) i ≡ slice_index buffer i
filled_behind input buffer i low high =
    let first : ℕ = length (take (length buffer) input) in
    let sum : length input + (i - first) ≡ i = omega (arith, low, high, length-take (length buffer) input) in
    get_or-append_right (take (length buffer) input) (drop (length input) buffer) first i 0 refl low
    ∙ get_or-drop (length input) buffer (i - first) 0 ∙ ap (λ k. get_or buffer k 0) sum

length_filled : (input buffer : List ℕ) → length (filled input buffer) ≡ length buffer
length_filled input buffer =
    omega (
      arith,
      length-append (take (length buffer) input) (drop (length input) buffer),
      length-take (length buffer) input,
      length-drop (length input) buffer,
    )

-- a buffer with input in front is the input written
fills : (address count : ℕ) (input buffer : List ℕ) (old new : MachineState) → AreSegments old.segments
    → bytes_at (λ s. s.write) address count old.segments ≡ Some buffer → length buffer ≡ count
    → with_bytes_at (λ s. s.write) address (filled input buffer) old.segments ≡ Some new.segments
    → Writes address (take count input) old new
fills address count input buffer old new segments found size e =
    let front : List ℕ = take (length buffer) input in
    let total : length (filled input buffer) ≡ length buffer = length_filled input buffer in
    let there = split new address front (drop (length input) buffer)
    (written_bytes (λ s. s.write) address (filled input buffer) old new segments e) in
    let taken : front ≡ take count input = ap (λ n. take n input) size in
    let same : (x : ℕ) → (x < address) ⊎ (address + length front ≤ x)
    → byte_in new.segments x ≡ byte_in old.segments x =
    λ x apart. elim (cases_lt x (address + count)) as (λ _. byte_in new.segments x ≡ byte_in old.segments x) [
      | inl inside ↦ elim apart as (λ _. byte_in new.segments x ≡ byte_in old.segments x) [
        | inl before ↦ kept_at (λ s. s.write) address x (filled input buffer) old.segments new.segments e (inl before)
        | inr behind ↦ written_at (λ s. s.write) address x (filled input buffer) old.segments new.segments
            (parted old.segments segments.disjoint) e (omega (arith, behind)) (omega (arith, inside, total, size))
            ∙ ap Some (filled_behind input buffer (x - address) (omega (arith, behind))
            (omega (arith, inside, behind, size)))
            ∙ sym (read_at (λ s. s.write) address count x old.segments buffer
            (parted old.segments segments.disjoint) found (omega (arith, behind)) inside)
      ]
      | inr past ↦ kept_at (λ s. s.write) address x (filled input buffer) old.segments new.segments e
          (inr (omega (arith, past, total, size)))
    ] in
    record {
      written = subst (λ l. Bytes new address l) taken there.0;
      kept = λ other others apart here.
          let apart' : AreApart address (length front) other (length others) =
          subst (λ l. AreApart address (length l) other (length others)) (sym taken) apart in
          from_each new other others
          (λ x low high. same x (before_or_behind address (length front) other (length others) x apart' low high)
          ∙ at_each old other others here x low high);
      allows = allows_the_same (λ s. s.write) address (filled input buffer) old new e;
      segments = segments_kept (λ s. s.write) address (filled input buffer) old.segments new.segments e segments;
    }

pub reads_by : (m : MachineState) (streams : Streams) → AreSegments m.segments → (register m 12 ≡ 0 → ⊥)
    → MayWrite m (register m 11) (register m 12)
    → (new : MachineState)
    × (reads m streams ≡ Running new (record streams { input = drop (register m 12) streams.input }))
    × (new.pc ≡ next_pc m) × (new.registers ≡ with_register m.registers 10 (min (register m 12) (length streams.input)))
    × Writes (register m 11) (take (register m 12) streams.input) m new
reads_by m streams segments some may =
    let count : ℕ = register m 12 in
    let address : ℕ = register m 11 in
    let input : List ℕ = streams.input in
    let found = readable (λ s. s.write) address count m.segments may in
    let buffer : List ℕ = found.0 in
    let size : length (filled input buffer) ≡ count = length_filled input buffer ∙ found.2 in
    let there = writable (λ s. s.write) address (filled input buffer) m.segments
    (subst (λ n. is_allowed (λ s. s.write) m.segments address n ≡ true) (sym size) may) in
    let new : MachineState =
    record {
      pc = next_pc m;
      registers = with_register m.registers 10 (min count (length input));
      segments = there.0;
    } in
    let step : reads m streams ≡ Running new (record streams { input = drop count input }) =
    ap (λ b. cond b (gives m 10 0 streams) (reads_into m (bytes_at (λ s. s.write) address count m.segments) streams))
    (not_zero count some)
    ∙ ap (λ o. reads_into m o streams) found.1
    ∙ ap (λ o. goes_on_read m o (min (length buffer) (length input)) streams) there.1
    ∙ ap (λ n. goes_on_read m (Some there.0) (min n (length input)) streams) found.2
    ∙ ap (λ l. Running new (record streams { input = l })) (drop_min count input) in
    (new, step, refl, refl, fills address count input buffer m new segments found.1 found.2 there.1)
