-- Which index is told of words that are no line.
use Rattle.std.proofs.Common.{◌≡◌, ◌∙◌, ℕ, zero, suc, ◌+◌, ◌^◌, ◌<◌, ◌≤◌, nat_eq, ne_eqb, decimal, Bool}
use Rattle.std.proofs.Common.{true, false, cond, ◌&&◌, ◌||◌, not, nat_le, List, [], ◌∷◌, ◌++◌, length, take, count_by}
use Rattle.std.proofs.Common.{codes, Option, Some, None, Result, Ok, Err, refl, ap, sym, subst, arith, append_assoc}
use Rattle.std.proofs.Common.{add-one, add-zero}
use Rattle.std.specs.Bool.{if◌then◌else◌}
use Rattle.std.specs.List.{flat_map, list_any}
use Rattle.std.specs.Option.{is_some}
use Rattle.std.specs.Str.{bytes_eq}
use Rattle.std.proofs.lemmas.Bool.{le-leb, leb-false}
use Rattle.std.proofs.lemmas.List.{append-nil}
use Rattle.std.proofs.lemmas.List.Folds.{list_any-append}
use Rattle.std.proofs.lemmas.List.Sums.{fold-append}
use Rattle.ilc.specs.Grammar.{option_row, command_row, is_name, is_name_item, gives, writes_to, is_output, is_given}
use Rattle.ilc.specs.Grammar.{fits, may_be_given, has_room, option_named, command_named, item_words, Has, MayFollow}
use Rattle.ilc.specs.Grammar.{EachMayFollow, is_whole}
use Rattle.ilc.specs.Words.{reading, with_item, begun, with_option, with_word, ended, go_on, items_from}
use Rattle.ilc.specs.Words.{command_from, asked_for, behind_command, command_of, AsksFor, IsFirstWrong}
use Rattle.ilc.specs.declared.command.Command.{Command}
use Rattle.ilc.specs.declared.grammar.Argument.{Argument}
use Rattle.ilc.specs.declared.grammar.Argument.TheVariants.{Nothing, Output, Number}
use Rattle.ilc.specs.declared.grammar.CommandName.{CommandName}
use Rattle.ilc.specs.declared.grammar.CommandName.TheVariants.{Body, Run, Dis, Asm}
use Rattle.ilc.specs.declared.grammar.CommandOption.{CommandOption}
use Rattle.ilc.specs.declared.grammar.CommandOption.TheVariants.{Out, Steps, Count}
use Rattle.ilc.specs.declared.grammar.Item.{Item}
use Rattle.ilc.specs.declared.grammar.Item.TheVariants.{Name, Switch, Setting}
use Rattle.ilc.specs.declared.reading.Reading.{Reading}
use Rattle.ilc.proofs.NumberOf.{spells}
use Rattle.ilc.proofs.WordLemmas.{some_of, and_true, spelled_so, same_word, reads_line, accepted_is_line}
use Rattle.ilc.proofs.WordLemmas.{line_is_accepted}

-- ---- an option waits for an argument that it takes

abbrev pub takes : Argument → Type 0
takes Nothing = ⊥
takes Output = Unit {0}
takes (Number most) = Unit {0}

abbrev pub IsReady : CommandName → List Item → Option CommandOption → Type 0
IsReady of items None = Unit {0}
IsReady of items (Some given) = Has of given × (may_be_given given items ≡ true) × takes (option_row given).argument

ready_begun : (of : CommandName) (items : List Item) (given : CommandOption) → Has of given
    → may_be_given given items ≡ true → (a : Argument) → (option_row given).argument ≡ a
    → IsReady of (begun (reading items None) given a).items (begun (reading items None) given a).awaits
ready_begun of items given has may Nothing is = tt
ready_begun of items given has may Output is = (has, may, subst takes (sym is) tt)
ready_begun of items given has may (Number most) is = (has, may, subst takes (sym is) tt)

ready_behind : (of : CommandName) (items : List Item) (word : List ℕ) (next : Reading) (found : Option CommandOption)
    → option_named of word ≡ found → with_option of (reading items None) word found ≡ Some next
    → IsReady of next.items next.awaits
ready_behind of items word next (Some given) named e =
    let has : Has of given = subst (λ w. option_named of w ≡ Some given) (spelled_so of word given named) named in
    let s = some_of (may_be_given given items) (begun (reading items None) given (option_row given).argument) next e in
    subst (λ r. IsReady of r.items r.awaits) s.1 (ready_begun of items given has s.0 (option_row given).argument refl)
ready_behind of items word next None named e =
    let s = some_of (is_name word && has_room (command_row of).most (count_by is_name_item items))
    (with_item (reading items None) (Name word)) next e in
    subst (λ r. IsReady of r.items r.awaits) s.1 tt

ready_next : (of : CommandName) (items : List Item) (awaits : Option CommandOption) (word : List ℕ) (next : Reading)
    → with_word of (reading items awaits) word awaits ≡ Some next → IsReady of next.items next.awaits
ready_next of items None word next e = ready_behind of items word next (option_named of word) refl e
ready_next of items (Some given) word next e =
    let s = some_of (fits (option_row given).argument items word)
    (with_item (reading items (Some given)) (Setting given word)) next e in
    subst (λ r. IsReady of r.items r.awaits) s.1 tt

-- ---- what is begun can be ended

-- a file's name that is none of those that the items have
abbrev pub total : List Item → ℕ
total [] = 0
total (Name word ∷ items) = total items
total (Switch given ∷ items) = total items
total (Setting given word ∷ items) = length word + total items

abbrev pub word_of : ℕ → List ℕ
word_of zero = []
word_of (suc n) = 97 ∷ word_of n

length-word_of : (n : ℕ) → length (word_of n) ≡ n
length-word_of zero = refl
length-word_of (suc n) = ap suc (length-word_of n)

shorter : (word : List ℕ) (n : ℕ) → length word < n → (b : Bool) → bytes_eq word (word_of n) ≡ b → b ≡ false
shorter word n short false e = refl
shorter word n short true e =
    let same : length word ≡ length (word_of n) = ap length (same_word word (word_of n) e) in
    let size : length (word_of n) ≡ n = length-word_of n in
    absurd (omega arith)

and_false : (a b : Bool) → b ≡ false → (a && b) ≡ false
and_false true b e = e
and_false false b e = refl

or_true : (a : Bool) → (a || true) ≡ true
or_true true = refl
or_true false = refl

none_written : (items : List Item) (n : ℕ) → total items < n → list_any (writes_to (word_of n)) items ≡ false
none_written [] n h = refl
none_written (Name word ∷ items) n h = none_written items n h
none_written (Switch given ∷ items) n h = none_written items n h
none_written (Setting given word ∷ items) n h =
    let sum : length word + total items < n = h in
    let other : bytes_eq word (word_of n) ≡ false = shorter word n (omega arith) (bytes_eq word (word_of n)) refl in
    ap (λ b. b || list_any (writes_to (word_of n)) items)
    (and_false (is_output (option_row given).argument) (bytes_eq word (word_of n)) other)
    ∙ none_written items n (omega arith)

-- an option whose argument is a number
small_number : (given : CommandOption) (most : ℕ) → (option_row given).argument ≡ Number most → most < 2 ^ 64
small_number Out most e = absurd (let h : Output ≡ Number most = e in cc)
small_number Steps most e = let h : 9223372036854775807 ≡ most =
    (let n : Number 9223372036854775807 ≡ Number most = e in cc) in omega arith
small_number Count most e = absurd (let h : Nothing ≡ Number most = e in cc)

value_for : (given : CommandOption) (items : List Item) (a : Argument) → (option_row given).argument ≡ a → takes a
    → (word : List ℕ) × (fits a items word ≡ true)
value_for given items Nothing is h = absurd h
value_for given items Output is h =
    let n : ℕ = suc (total items) in
    let full : nat_eq (length (word_of n)) 0 ≡ false =
    (let size : length (word_of n) ≡ n = length-word_of n in ne_eqb (length (word_of n)) 0 (omega arith)) in (
      word_of n,
      and_true (not (nat_eq (length (word_of n)) 0)) (not (list_any (writes_to (word_of n)) items))
          (ap not full) (ap not (none_written items n (omega arith))),
    )
value_for given items (Number most) is h =
    (decimal 0, ap is_some (spells most (small_number given most is) (decimal 0) 0 (omega arith) refl))

-- items that make a line whole
abbrev pub Ends : CommandName → List Item → Type 0
Ends of items = (new : List Item) × EachMayFollow of items new × (is_whole of (items ++ new) ≡ true)

ends_whole : (of : CommandName) (items : List Item) → is_whole of items ≡ true → Ends of items
ends_whole of items whole = ([], tt, subst (λ i. is_whole of i ≡ true) (sym (append-nil items)) whole)

ends_item : (of : CommandName) (items : List Item) (item : Item) → MayFollow of items item
    → Ends of (items ++ item ∷ []) → Ends of items
ends_item of items item may h =
    (item ∷ h.0, (may, h.1), subst (λ i. is_whole of i ≡ true) (append_assoc items (item ∷ []) h.0) h.2)

count_push : (items : List Item) (item : Item)
    → count_by is_name_item (items ++ item ∷ []) ≡ count_by is_name_item items + cond (is_name_item item) 1 0
count_push items item = fold-append (λ count next. count + cond (is_name_item next) 1 0) 0 items (item ∷ [])

count_more : (items : List Item) (item : Item) → is_name_item item ≡ true
    → count_by is_name_item (items ++ item ∷ []) ≡ suc (count_by is_name_item items)
count_more items item e =
    count_push items item
    ∙ (ap (λ b. count_by is_name_item items + cond b 1 0) e ∙ add-one (count_by is_name_item items))

count_same : (items : List Item) (item : Item) → is_name_item item ≡ false
    → count_by is_name_item (items ++ item ∷ []) ≡ count_by is_name_item items
count_same items item e =
    count_push items item
    ∙ (ap (λ b. count_by is_name_item items + cond b 1 0) e ∙ add-zero (count_by is_name_item items))

given_new : (wanted : CommandOption) (items : List Item) (item : Item) → gives wanted item ≡ true
    → is_given wanted (items ++ item ∷ []) ≡ true
given_new wanted items item e =
    list_any-append (gives wanted) items (item ∷ [])
    ∙ (ap (λ b. list_any (gives wanted) items || (b || false)) e ∙ or_true (list_any (gives wanted) items))

room_for_one : (n : ℕ) → nat_le 1 n ≡ false → nat_le (suc n) 1 ≡ true
room_for_one n e = let h : n < 1 = leb-false 1 n e in le-leb (suc n) 1 (omega arith)

one_name : (items : List Item) → nat_le 1 (count_by is_name_item (items ++ Name (codes "a") ∷ [])) ≡ true
one_name items =
    ap (nat_le 1) (count_more items (Name (codes "a")) refl) ∙ le-leb 1 (suc (count_by is_name_item items))
    (omega arith)

-- of a command that wants one name and no option
ends_plain : (of : CommandName) → (command_row of).most ≡ Some 1
    → ((items : List Item) → is_whole of items ≡ (nat_le 1 (count_by is_name_item items) && true)) → (items : List Item)
    (b : Bool)
    → nat_le 1 (count_by is_name_item items) ≡ b → Ends of items
ends_plain of most plain items true e =
    ends_whole of items (plain items ∙ and_true (nat_le 1 (count_by is_name_item items)) true e refl)
ends_plain of most plain items false e =
    let more : List Item = items ++ Name (codes "a") ∷ [] in
    ends_item of items (Name (codes "a"))
    (refl, ap (λ m. has_room m (count_by is_name_item items)) most ∙ room_for_one (count_by is_name_item items) e)
    (ends_whole of more (plain more ∙ and_true (nat_le 1 (count_by is_name_item more)) true (one_name items) refl))

-- of a command that wants one name and an output
abbrev pub WantsOutput : CommandName → Type 0
WantsOutput of =
    Has of Out × ((command_row of).most ≡ Some 1)
    × ((items : List Item) → is_whole of items
    ≡ (nat_le 1 (count_by is_name_item items) && (is_given Out items && true)))

ends_output : (of : CommandName) → WantsOutput of → (items : List Item)
    → nat_le 1 (count_by is_name_item items) ≡ true → (b : Bool) → is_given Out items ≡ b → Ends of items
ends_output of wants items names true e =
    ends_whole of items (wants.2 items ∙ and_true (nat_le 1 (count_by is_name_item items)) (is_given Out items && true)
    names (and_true (is_given Out items) true e refl))
ends_output of wants items names false e =
    let v = value_for Out items Output refl tt in
    let item : Item = Setting Out v.0 in
    let more : List Item = items ++ item ∷ [] in
    ends_item of items item (wants.0, v.1, ap (λ b. false || not b) e)
    (ends_whole of more (wants.2 more
    ∙ and_true (nat_le 1 (count_by is_name_item more)) (is_given Out more && true)
    (ap (nat_le 1) (count_same items item refl) ∙ names)
    (and_true (is_given Out more) true (given_new Out items item refl) refl)))

ends_named : (of : CommandName) → WantsOutput of → (items : List Item) (b : Bool)
    → nat_le 1 (count_by is_name_item items) ≡ b → Ends of items
ends_named of wants items true e = ends_output of wants items e (is_given Out items) refl
ends_named of wants items false e =
    let more : List Item = items ++ Name (codes "a") ∷ [] in
    ends_item of items (Name (codes "a")) (
      refl,
      ap (λ m. has_room m (count_by is_name_item items)) wants.1
          ∙ room_for_one (count_by is_name_item items) e,
    )
    (ends_output of wants more (one_name items) (is_given Out more) refl)

ends : (of : CommandName) (items : List Item) → Ends of items
ends Body items = ends_named Body (refl, refl, λ all. refl) items (nat_le 1 (count_by is_name_item items)) refl
ends Run items = ends_plain Run refl (λ all. refl) items (nat_le 1 (count_by is_name_item items)) refl
ends Dis items = ends_plain Dis refl (λ all. refl) items (nat_le 1 (count_by is_name_item items)) refl
ends Asm items = ends_named Asm (refl, refl, λ all. refl) items (nat_le 1 (count_by is_name_item items)) refl

completes : (of : CommandName) (at : ℕ) (items : List Item) (awaits : Option CommandOption) → IsReady of items awaits
    → (rest : List (List ℕ)) × (all : List Item) × (items_from of at (reading items awaits) rest ≡ Ok all)
completes of at items None ready =
    let n = ends of items in (flat_map item_words n.0, items ++ n.0, reads_line of at items n.0 n.1 n.2)
completes of at items (Some given) ready =
    let v = value_for given items (option_row given).argument refl ready.2 in
    let item : Item = Setting given v.0 in
    let n = ends of (items ++ item ∷ []) in
    let words : List (List ℕ) = flat_map item_words n.0 in (
      v.0 ∷ words,
      (items ++ item ∷ []) ++ n.0,
      ap (λ b. go_on at (λ next. items_from of (at + 1) next words)
          (if b then Some (with_item (reading items (Some given)) item) else None)) v.1
          ∙ reads_line of (at + 1) (items ++ item ∷ []) n.0 n.1 n.2,
    )

-- ---- where reading stops

record Told (of : CommandName) (at : ℕ) (words : List (List ℕ)) (before : Reading) (index : ℕ) : Type 0 where
  pub place : ℕ
  pub is : index ≡ at + place
  pub within : place ≤ length words
  pub wrong : place < length words → (rest : List (List ℕ))
      → items_from of at before (take (suc place) words ++ rest) ≡ Err index
  pub rest : List (List ℕ)
  pub all : List Item
  pub front : items_from of at before (take place words ++ rest) ≡ Ok all

err_of : {X : Type 0} (b : Bool) (x : X) (at index : ℕ) → (if b then Ok x else Err at) ≡ Err index → at ≡ index
err_of true x at index e = absurd (let h : Ok x ≡ Err index = e in cc)
err_of false x at index e = let h : Err at ≡ Err index = e in cc

ended_err : (of : CommandName) (at : ℕ) (items : List Item) (awaits : Option CommandOption) (index : ℕ)
    → ended of at items awaits ≡ Err index → at ≡ index
ended_err of at items None index e = err_of (is_whole of items) items at index e
ended_err of at items (Some given) index e = let h : Err at ≡ Err index = e in cc

tells : (of : CommandName) (at : ℕ) (words : List (List ℕ)) (items : List Item) (awaits : Option CommandOption)
    (index : ℕ)
    → IsReady of items awaits → items_from of at (reading items awaits) words ≡ Err index
    → Told of at words (reading items awaits) index
tells of at [] items awaits index ready e =
    let c = completes of at items awaits ready in
    let same : at ≡ index = ended_err of at items awaits index e in
    record {
      place = 0;
      is = omega arith;
      within = omega arith;
      wrong = λ h rest. absurd (omega arith);
      rest = c.0;
      all = c.1;
      front = c.2;
    }
tells of at (word ∷ words) items awaits index ready e =
    by (with_word of (reading items awaits) word awaits) refl e
    (λ next r. tells of (at + 1) words next.items next.awaits index r)
  where
    by : (found : Option Reading) → with_word of (reading items awaits) word awaits ≡ found
        → go_on at (λ next. items_from of (at + 1) next words) found ≡ Err index
        → ((next : Reading) → IsReady of next.items next.awaits → items_from of (at + 1) next words ≡ Err index → Told
        of (at + 1) words next index)
        → Told of at (word ∷ words) (reading items awaits) index
    by None found e ih =
        let c = completes of at items awaits ready in
        let same : at ≡ index = (let h : Err at ≡ Err index = e in cc) in
        record {
          place = 0;
          is = omega arith;
          within = omega arith;
          wrong = λ h rest. ap (go_on at (λ next. items_from of (at + 1) next (take 0 words ++ rest))) found ∙ e;
          rest = c.0;
          all = c.1;
          front = c.2;
        }
    by (Some next) found e ih =
        let t = ih next (ready_next of items awaits word next found) e in
        let is : index ≡ at + 1 + t.place = t.is in
        let within : t.place ≤ length words = t.within in
        record {
          place = suc t.place;
          is = omega arith;
          within = omega arith;
          wrong = λ h rest. ap (go_on at (λ n. items_from of (at + 1) n (take (suc t.place) words ++ rest))) found ∙
              t.wrong (omega arith) rest;
          rest = t.rest;
          all = t.all;
          front = ap (go_on at (λ n. items_from of (at + 1) n (take t.place words ++ t.rest))) found ∙ t.front;
        }

commands_are_named : (of : CommandName) → command_named (command_row of).name ≡ Some of
commands_are_named Body = refl
commands_are_named Run = refl
commands_are_named Dis = refl
commands_are_named Asm = refl

-- there is a line
a_line : (rest : List (List ℕ)) × (asked : Command) × AsksFor rest asked
a_line =
    let c = completes Run 1 [] None tt in (
      (command_row Run).name ∷ c.0,
      command_from Run c.1,
      accepted_is_line ((command_row Run).name ∷ c.0) (command_from Run c.1)
          (ap (behind_command c.0) (commands_are_named Run) ∙ ap (asked_for Run) c.2),
    )

asked_err : (of : CommandName) (r : Result (List Item) ℕ) (index : ℕ) → asked_for of r ≡ Err index → r ≡ Err index
asked_err of (Ok items) index e = absurd (let h : Ok (command_from of items) ≡ Err index = e in cc)
asked_err of (Err at) index e = let h : Err at ≡ Err index = e in cc

not_both : (words : List (List ℕ)) (asked : Command) (index : ℕ) → command_of words ≡ Err index → AsksFor words asked
    → ⊥
not_both words asked index e h =
    let both : Ok asked ≡ Err index = sym (line_is_accepted words asked h) ∙ e in cc

pub first_wrong : (words : List (List ℕ)) (index : ℕ) → command_of words ≡ Err index → IsFirstWrong index words
first_wrong [] index e =
    let zero_is : 0 ≡ index = (let h : Err 0 ≡ Err index = e in cc) in
    subst (λ i. IsFirstWrong i []) zero_is (record {
      within = omega arith;
      front = a_line;
      wrong = λ h rest asked a. omega arith;
      missing = λ asked a. not_both [] asked index e a;
    })
first_wrong (word ∷ words) index e = by (command_named word) refl
  where
    by : (found : Option CommandName) → command_named word ≡ found → IsFirstWrong index (word ∷ words)
    by None named =
        let zero_is : 0 ≡ index = (let h : Err 0 ≡ Err index = sym (ap (behind_command words) named) ∙ e in cc) in
        subst (λ i. IsFirstWrong i (word ∷ words)) zero_is (record {
          within = omega arith;
          front = a_line;
          wrong = λ h rest asked a. not_both (word ∷ (take 0 words ++ rest)) asked 0
              (ap (behind_command (take 0 words ++ rest)) named) a;
          missing = λ asked a. not_both (word ∷ words) asked index e a;
        })
    by (Some of) named =
        let t = tells of 1 words [] None index tt
        (asked_err of (items_from of 1 (reading [] None) words) index (sym (ap (behind_command words) named) ∙ e))
        in
        let is : suc t.place ≡ index = (let h : index ≡ 1 + t.place = t.is in omega arith) in
        let within : t.place ≤ length words = t.within in
        let next : suc (suc t.place) ≡ suc t.place + 1 = omega arith in
        subst (λ i. IsFirstWrong i (word ∷ words)) is (record {
          within = omega arith;
          front = (
            t.rest,
            command_from of t.all,
            accepted_is_line (word ∷ (take t.place words ++ t.rest)) (command_from of t.all)
                (ap (behind_command (take t.place words ++ t.rest)) named ∙ ap (asked_for of) t.front),
          );
          wrong = λ h rest asked a.
              not_both (word ∷ (take (suc t.place) words ++ rest)) asked index
              (ap (behind_command (take (suc t.place) words ++ rest)) named ∙ ap (asked_for of)
              (t.wrong (omega arith) rest))
              (subst (λ n. AsksFor (take n (word ∷ words) ++ rest) asked) (sym next) a);
          missing = λ asked a. not_both (word ∷ words) asked index e a;
        })
