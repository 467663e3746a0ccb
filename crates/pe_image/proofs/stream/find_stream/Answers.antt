use Rattle.std.proofs.Common.{◌≡◌, ◌∙◌, ℕ, List, ◌∷◌, suc, ◌+◌, ◌-◌, ◌≤◌, length, take, drop, true, false, cond, Some}
use Rattle.std.proofs.Common.{ap, sym, subst, arith, rules}
use Rattle.std.specs.Option.{option_map}
use Rattle.std.specs.Str.{bytes_eq}
use Rattle.std.proofs.lemmas.List.Elements.{All-head, All-tail}
use Rattle.pe_image.specs.Streams.{header, stream_at, streams_at, stream_named, whole_streams, bytes_of, Stream}
use Rattle.pe_image.specs.Streams.{AreWithin}
use Rattle.pe_image.proofs.Streams.{list_on, whole_on}
use Rattle.pe_image.proofs.stream.find_stream.Goals as goal

pub part-requires : goal.part-requires
part-requires c =
    let root : List ℕ = c.args.root.now in
    let place : ℕ = c.loop-left.place in
    let s : Stream = stream_at root place c.in-Some.length in
    let found : header root place ≡ Some (c.in-Some.size, c.in-Some.length) = sym c.header.ensures.value
    ∙ c.in-Some.is in
    let left : c.loop-left.left ≡ suc (c.loop-left.left - 1) = omega (arith, c.loop-left-test.true) in
    let rest : List Stream = whole_streams (streams_at root (c.loop-left.left - 1) (place + c.in-Some.size)) in
    let list : whole_streams (streams_at root c.loop-left.left place) ≡ s ∷ rest = list_on root c.loop-left.left
    (c.loop-left.left - 1) place c.in-Some.size c.in-Some.length left found c.loop-left.invariant.whole in
    let here : s.at + s.size ≤ length root = All-head (λ s. s.at + s.size ≤ length root) s rest
    (subst (AreWithin root) list c.loop-left.invariant.within) in
    subst (λ n. c.word_at-begin.result + n ≤ length root) (sym c.word_at.ensures)
    (subst (λ n. n + s.size ≤ length root) (sym c.word_at-begin.ensures) here)

pub returns-then-is_named : goal.returns-then-is_named
returns-then-is_named c =
    let root : List ℕ = c.args.root.now in
    let name : List ℕ = c.args.name.now in
    let place : ℕ = c.loop-left.place in
    let s : Stream = stream_at root place c.in-Some.length in
    let found : header root place ≡ Some (c.in-Some.size, c.in-Some.length) = sym c.header.ensures.value
    ∙ c.in-Some.is in
    let left : c.loop-left.left ≡ suc (c.loop-left.left - 1) = omega (arith, c.loop-left-test.true) in
    let rest : List Stream = whole_streams (streams_at root (c.loop-left.left - 1) (place + c.in-Some.size)) in
    let list : whole_streams (streams_at root c.loop-left.left place) ≡ s ∷ rest = list_on root c.loop-left.left
    (c.loop-left.left - 1) place c.in-Some.size c.in-Some.length left found c.loop-left.invariant.whole in
    let is : c.is_named.result ≡ true = search rules in
    let named : bytes_eq s.name name ≡ true = sym c.is_named.ensures ∙ is in
    let first : stream_named name (whole_streams (streams_at root c.args.count c.args.place)) ≡ Some s =
    c.loop-left.invariant.same
    ∙ (ap (stream_named name) list ∙ ap (λ b. cond b (Some s) (stream_named name rest)) named) in
    let bytes : c.part.result.now ≡ bytes_of root s =
    c.part.ensures
    ∙ (ap (λ n. take n (drop c.word_at-begin.result root)) c.word_at.ensures
    ∙ ap (λ a. take s.size (drop a root)) c.word_at-begin.ensures) in
    ap Some bytes ∙ sym (ap (option_map (bytes_of root)) first)

pub loop-left-preserved : goal.loop-left-preserved
loop-left-preserved c =
    let root : List ℕ = c.args.root.now in
    let name : List ℕ = c.args.name.now in
    let place : ℕ = c.loop-left.place in
    let s : Stream = stream_at root place c.in-Some.length in
    let found : header root place ≡ Some (c.in-Some.size, c.in-Some.length) = sym c.header.ensures.value
    ∙ c.in-Some.is in
    let left : c.loop-left.left ≡ suc (c.loop-left.left - 1) = omega (arith, c.loop-left-test.true) in
    let rest : List Stream = whole_streams (streams_at root (c.loop-left.left - 1) (place + c.in-Some.size)) in
    let list : whole_streams (streams_at root c.loop-left.left place) ≡ s ∷ rest = list_on root c.loop-left.left
    (c.loop-left.left - 1) place c.in-Some.size c.in-Some.length left found c.loop-left.invariant.whole in
    let is : c.is_named.result ≡ false = search rules in
    let named : bytes_eq s.name name ≡ false = sym c.is_named.ensures ∙ is in
    record {
      inside = c.in-Some.ensures.whole;
      whole = whole_on root c.loop-left.left (c.loop-left.left - 1) place c.in-Some.size c.in-Some.length left found
          c.loop-left.invariant.whole;
      within = All-tail (λ s. s.at + s.size ≤ length root) s rest
          (subst (AreWithin root) list c.loop-left.invariant.within);
      same = c.loop-left.invariant.same
          ∙ (ap (stream_named name) list ∙ ap (λ b. cond b (Some s) (stream_named name rest)) named);
    }
