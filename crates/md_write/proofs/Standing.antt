-- A part of bytes that begins at a place.
use Rattle.std.proofs.Common.{◌≡◌, ◌∙◌, ℕ, ◌+◌, ◌^◌, ◌<◌, ◌≤◌, List, [], ◌++◌, length, drop, ap, refl, sym, subst}
use Rattle.std.proofs.Common.{append_assoc, length-append, arith}
use Rattle.std.proofs.lemmas.List.{append-nil}
use Rattle.std.proofs.Math.Seq.{drop-append_seam}
use Rattle.byteorder.specs.Endian.{little_bytes, little_number}
use Rattle.byteorder.specs.Numbers.{little_number-reads_back}
use Rattle.md_rows.specs.Widths.{number_at}

pub record Stands (bytes part : List ℕ) (at : ℕ) : Type 0 where
  pub front : List ℕ
  pub behind : List ℕ
  pub parts : bytes ≡ front ++ (part ++ behind)
  pub starts : length front ≡ at

-- the same part at the same place, told in other words
pub stands-is : (bytes part other : List ℕ) (at place : ℕ) → part ≡ other → at ≡ place → Stands bytes part at
    → Stands bytes other place
stands-is bytes part other at place same here h =
    subst (λ p. Stands bytes other p) here (subst (λ o. Stands bytes o at) same h)

pub stands-more : (bytes part more : List ℕ) (at : ℕ) → Stands bytes part at → Stands (bytes ++ more) part at
stands-more bytes part more at h =
    record {
      front = h.front;
      behind = h.behind ++ more;
      parts = ap (λ b. b ++ more) h.parts ∙ (append_assoc h.front (part ++ h.behind) more
          ∙ ap (λ b. h.front ++ b) (append_assoc part h.behind more));
      starts = h.starts;
    }

pub stands-last : (bytes part : List ℕ) → Stands (bytes ++ part) part (length bytes)
stands-last bytes part =
    record {
      front = bytes;
      behind = [];
      parts = ap (λ b. bytes ++ b) (sym (append-nil part));
      starts = refl;
    }

-- the first and the second of two parts
pub stands-first : (bytes one two : List ℕ) (at : ℕ) → Stands bytes (one ++ two) at → Stands bytes one at
stands-first bytes one two at h =
    record {
      front = h.front;
      behind = two ++ h.behind;
      parts = h.parts ∙ ap (λ b. h.front ++ b) (append_assoc one two h.behind);
      starts = h.starts;
    }

pub stands-second : (bytes one two : List ℕ) (at : ℕ) → Stands bytes (one ++ two) at
    → Stands bytes two (at + length one)
stands-second bytes one two at h =
    record {
      front = h.front ++ one;
      behind = h.behind;
      parts = h.parts ∙ (ap (λ b. h.front ++ b) (append_assoc one two h.behind)
          ∙ sym (append_assoc h.front one (two ++ h.behind)));
      starts = length-append h.front one ∙ ap (λ n. n + length one) h.starts;
    }

-- what begins at the place
pub stands-drop : (bytes part : List ℕ) (at : ℕ) (h : Stands bytes part at) → drop at bytes ≡ part ++ h.behind
stands-drop bytes part at h =
    ap (drop at) h.parts
    ∙ (ap (λ n. drop n (h.front ++ (part ++ h.behind))) (sym h.starts)
    ∙ drop-append_seam h.front (part ++ h.behind))

-- the part is whole
pub stands-fits : (bytes part : List ℕ) (at : ℕ) → Stands bytes part at → at + length part ≤ length bytes
stands-fits bytes part at h =
    omega (
      arith,
      ap length h.parts,
      length-append h.front (part ++ h.behind),
      length-append part h.behind,
      h.starts,
    )

-- a number that stands at the place
pub stands-number : (bytes : List ℕ) (size number at : ℕ) → number < 256 ^ size
    → Stands bytes (little_bytes size number) at → number_at bytes size at ≡ number
stands-number bytes size number at low h =
    ap (little_number size) (stands-drop bytes (little_bytes size number) at h)
    ∙ little_number-reads_back size number h.behind low
