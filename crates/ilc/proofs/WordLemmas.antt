-- What the reading of words gives, and that it is the items of a line.
use Rattle.std.proofs.Common.{◌≡◌, ◌∙◌, ℕ, ◌+◌, Bool, true, false, cond, ◌&&◌}
use Rattle.std.proofs.Common.{List, [], ◌∷◌, ◌++◌, count_by, Option, Some, None, Result, Ok, Err, refl, ap}
use Rattle.std.proofs.Common.{sym, subst, append_assoc}
use Rattle.std.specs.Bool.{if◌then◌else◌}
use Rattle.std.specs.List.{find, flat_map}
use Rattle.std.specs.Str.{bytes_eq}
use Rattle.std.proofs.lemmas.List.{append-nil}
use Rattle.std.proofs.lemmas.Slice.Eq.{bytes_eq-Decides}
use Rattle.ilc.specs.Grammar.{option_row, command_row, commands, is_name, is_name_item, fits, may_be_given}
use Rattle.ilc.specs.Grammar.{has_room, option_named, command_named, item_words, Has, MayFollow, EachMayFollow}
use Rattle.ilc.specs.Grammar.{is_whole}
use Rattle.ilc.specs.Words.{reading, with_item, begun, with_option, with_argument, go_on, items_from}
use Rattle.ilc.specs.Words.{command_from, asked_for, behind_command, command_of, AsksFor}
use Rattle.ilc.specs.declared.command.Command.{Command}
use Rattle.ilc.specs.declared.grammar.Argument.{Argument}
use Rattle.ilc.specs.declared.grammar.Argument.TheVariants.{Nothing, Output, Number}
use Rattle.ilc.specs.declared.grammar.CommandName.{CommandName}
use Rattle.ilc.specs.declared.grammar.CommandName.TheVariants.{Body, Run, Dis, Asm}
use Rattle.ilc.specs.declared.grammar.CommandOption.{CommandOption}
use Rattle.ilc.specs.declared.grammar.CommandOption.TheVariants.{Out, Steps, Count}
use Rattle.ilc.specs.declared.grammar.Item.{Item}
use Rattle.ilc.specs.declared.grammar.Item.TheVariants.{Name, Switch, Setting}
use Rattle.ilc.specs.declared.reading.Reading.{Reading}

-- ---- choices

pub some_of : {X : Type 0} (b : Bool) (x y : X) → (if b then Some x else None) ≡ Some y → (b ≡ true) × (x ≡ y)
some_of true x y e = (refl, cc)
some_of false x y e = (cc, cc)

pub ok_of : {X : Type 0} (b : Bool) (x y : X) (at : ℕ) → (if b then Ok x else Err at) ≡ Ok y → (b ≡ true) × (x ≡ y)
ok_of true x y at e = (refl, cc)
ok_of false x y at e = (cc, cc)

pub both : (a b : Bool) → (a && b) ≡ true → (a ≡ true) × (b ≡ true)
both true true e = (refl, refl)
both true false e = (refl, e)
both false b e = (e, cc)

pub goes : (at : ℕ) (read : Reading → Result (List Item) ℕ) (found : Option Reading) (items : List Item)
    → go_on at read found ≡ Ok items → (next : Reading) × (found ≡ Some next) × (read next ≡ Ok items)
goes at read None items e = absurd (let h : Err at ≡ Ok items = e in cc)
goes at read (Some next) items e = (next, refl, e)

-- ---- tables

pub found_passes : {X : Type 0} (p : X → Bool) (xs : List X) (x : X) → find p xs ≡ Some x → p x ≡ true
found_passes p [] x e = cc
found_passes p (y ∷ xs) x e = by (p y) refl e (found_passes p xs x)
  where
    by : (b : Bool) → p y ≡ b → cond b (Some y) (find p xs) ≡ Some x → (find p xs ≡ Some x → p x ≡ true) → p x ≡ true
    by true h e rest = let same : y ≡ x = cc in subst (λ z. p z ≡ true) same h
    by false h e rest = rest e

pub none_found : {X : Type 0} (p : X → Bool) (xs : List X) → ((x : X) → p x ≡ false) → find p xs ≡ None
none_found p [] none = refl
none_found p (x ∷ xs) none = ap (λ b. cond b (Some x) (find p xs)) (none x) ∙ none_found p xs none

pub same_word : (a b : List ℕ) → bytes_eq a b ≡ true → a ≡ b
same_word a b e = (bytes_eq-Decides a b).0 e

pub own_word : (a : List ℕ) → bytes_eq a a ≡ true
own_word a = (bytes_eq-Decides a a).1 refl

-- no option is written as a name
options_are_no_names : (given : CommandOption) → is_name (option_row given).name ≡ false
options_are_no_names Out = refl
options_are_no_names Steps = refl
options_are_no_names Count = refl

other_word : (word : List ℕ) (given : CommandOption) → is_name word ≡ true → (b : Bool)
    → bytes_eq word (option_row given).name ≡ b → b ≡ false
other_word word given name false e = refl
other_word word given name true e =
    let same : is_name word ≡ false = ap is_name (same_word word (option_row given).name e) ∙ options_are_no_names
    given in
    cc

pub name_is_no_option : (of : CommandName) (word : List ℕ) → is_name word ≡ true → option_named of word ≡ None
name_is_no_option of word name =
    none_found (λ given. bytes_eq word (option_row given).name) (command_row of).options
    (λ given. other_word word given name (bytes_eq word (option_row given).name) refl)

commands_are_named : (of : CommandName) → command_named (command_row of).name ≡ Some of
commands_are_named Body = refl
commands_are_named Run = refl
commands_are_named Dis = refl
commands_are_named Asm = refl

-- ---- what was read are the items of a line

abbrev pub pending : Option CommandOption → List (List ℕ)
pending None = []
pending (Some given) = (option_row given).name ∷ []

-- an option that waits for its argument could be given
abbrev pub IsOpen : CommandName → List Item → Option CommandOption → Type 0
IsOpen of items None = Unit {0}
IsOpen of items (Some given) = Has of given × (may_be_given given items ≡ true)

-- the words are those of items that may stand behind `before`, and with them the line is whole
pub record Follows (of : CommandName) (before : List Item) (words : List (List ℕ)) (items : List Item) : Type 0 where
  pub new : List Item
  pub same : items ≡ before ++ new
  pub written : words ≡ flat_map item_words new
  pub follow : EachMayFollow of before new
  pub whole : is_whole of items ≡ true

-- one more item in front
in_front : (of : CommandName) (before : List Item) (item : Item) (words : List (List ℕ)) (items : List Item)
    → MayFollow of before item → Follows of (before ++ item ∷ []) words items
    → Follows of before (item_words item ++ words) items
in_front of before item words items may f =
    record {
      new = item ∷ f.new;
      same = f.same ∙ append_assoc before (item ∷ []) f.new;
      written = ap (λ ws. item_words item ++ ws) f.written;
      follow = (may, f.follow);
      whole = f.whole;
    }

-- what the rest of the words gives
abbrev pub Reads_on : CommandName → ℕ → List (List ℕ) → List Item → Type 0
Reads_on of at words items =
    (before : List Item) (awaits : Option CommandOption) → IsOpen of before awaits → items_from of at
    (reading before awaits) words ≡ Ok items → Follows of before (pending awaits ++ words) items

argument_step : (of : CommandName) (at : ℕ) (word : List ℕ) (words : List (List ℕ)) (items before : List Item)
    (given : CommandOption)
    → Reads_on of (at + 1) words items → IsOpen of before (Some given)
    → go_on at (λ next. items_from of (at + 1) next words) (with_argument (reading before (Some given)) word given) ≡
    Ok items
    → Follows of before ((option_row given).name ∷ word ∷ words) items
argument_step of at word words items before given ih ready e =
    let g = goes at (λ next. items_from of (at + 1) next words)
    (with_argument (reading before (Some given)) word given) items e in
    let s = some_of (fits (option_row given).argument before word)
    (with_item (reading before (Some given)) (Setting given word)) g.0 g.1 in
    in_front of before (Setting given word) words items (ready.0, s.0, ready.1)
    (ih (before ++ Setting given word ∷ []) None tt
    (subst (λ r. items_from of (at + 1) r words ≡ Ok items) (sym s.1) g.2))

behind_option : (of : CommandName) (at : ℕ) (words : List (List ℕ)) (items before : List Item) (given : CommandOption)
    → Reads_on of (at + 1) words items → Has of given → may_be_given given before ≡ true → (a : Argument)
    → (option_row given).argument ≡ a → items_from of (at + 1) (begun (reading before None) given a) words ≡ Ok items
    → Follows of before ((option_row given).name ∷ words) items
behind_option of at words items before given ih has may Nothing is e =
    in_front of before (Switch given) words items (has, is, may) (ih (before ++ Switch given ∷ []) None tt e)
behind_option of at words items before given ih has may Output is e = ih before (Some given) (has, may) e
behind_option of at words items before given ih has may (Number most) is e = ih before (Some given) (has, may) e

pub spelled_so : (of : CommandName) (word : List ℕ) (given : CommandOption) → option_named of word ≡ Some given
    → word ≡ (option_row given).name
spelled_so of word given named =
    same_word word (option_row given).name
    (found_passes (λ other. bytes_eq word (option_row other).name) (command_row of).options given named)

option_step : (of : CommandName) (at : ℕ) (word : List ℕ) (words : List (List ℕ)) (items before : List Item)
    (given : CommandOption)
    → Reads_on of (at + 1) words items → option_named of word ≡ Some given
    → go_on at (λ next. items_from of (at + 1) next words) (with_option of (reading before None) word (Some given)) ≡
    Ok items
    → Follows of before (word ∷ words) items
option_step of at word words items before given ih named e =
    let spelled : word ≡ (option_row given).name = spelled_so of word given named in
    let has : Has of given = subst (λ w. option_named of w ≡ Some given) spelled named in
    let argument : Argument = (option_row given).argument in
    let g = goes at (λ next. items_from of (at + 1) next words)
    (with_option of (reading before None) word (Some given)) items e in
    let s = some_of (may_be_given given before) (begun (reading before None) given argument) g.0 g.1 in
    subst (λ w. Follows of before (w ∷ words) items) (sym spelled)
    (behind_option of at words items before given ih has s.0 argument refl
    (subst (λ r. items_from of (at + 1) r words ≡ Ok items) (sym s.1) g.2))

name_step : (of : CommandName) (at : ℕ) (word : List ℕ) (words : List (List ℕ)) (items before : List Item)
    → Reads_on of (at + 1) words items
    → go_on at (λ next. items_from of (at + 1) next words) (with_option of (reading before None) word None) ≡ Ok items
    → Follows of before (word ∷ words) items
name_step of at word words items before ih e =
    let room : Bool = has_room (command_row of).most (count_by is_name_item before) in
    let g = goes at (λ next. items_from of (at + 1) next words) (with_option of (reading before None) word None) items
    e in
    let s = some_of (is_name word && room) (with_item (reading before None) (Name word)) g.0 g.1 in
    let b = both (is_name word) room s.0 in
    in_front of before (Name word) words items (b.0, b.1)
    (ih (before ++ Name word ∷ []) None tt (subst (λ r. items_from of (at + 1) r words ≡ Ok items) (sym s.1) g.2))

pub sound : (of : CommandName) (at : ℕ) (words : List (List ℕ)) (items : List Item) → Reads_on of at words items
sound of at [] items before None ready e =
    let w = ok_of (is_whole of before) before items at e in
    record {
      new = [];
      same = sym w.1 ∙ sym (append-nil before);
      written = refl;
      follow = tt;
      whole = subst (λ i. is_whole of i ≡ true) w.1 w.0;
    }
sound of at [] items before (Some given) ready e = absurd (let h : Err at ≡ Ok items = e in cc)
sound of at (word ∷ words) items before (Some given) ready e =
    argument_step of at word words items before given (sound of (at + 1) words items) ready e
sound of at (word ∷ words) items before None ready e =
    by (option_named of word) refl (sound of (at + 1) words items)
  where
    by : (found : Option CommandOption) → option_named of word ≡ found → Reads_on of (at + 1) words items
        → Follows of before (word ∷ words) items
    by (Some given) named ih =
        option_step of at word words items before given ih named
        (subst (λ f. go_on at (λ next. items_from of (at + 1) next words)
        (with_option of (reading before None) word f) ≡ Ok items) named e)
    by None named ih =
        name_step of at word words items before ih
        (subst (λ f. go_on at (λ next. items_from of (at + 1) next words)
        (with_option of (reading before None) word f) ≡ Ok items) named e)

asked_ok : (of : CommandName) (r : Result (List Item) ℕ) (asked : Command) → asked_for of r ≡ Ok asked
    → (items : List Item) × (r ≡ Ok items) × (asked ≡ command_from of items)
asked_ok of (Ok items) asked e = (items, refl, cc)
asked_ok of (Err index) asked e = absurd (let h : Err index ≡ Ok asked = e in cc)

-- words that are accepted are those of a line
pub accepted_is_line : (words : List (List ℕ)) (asked : Command) → command_of words ≡ Ok asked → AsksFor words asked
accepted_is_line [] asked e = absurd (let h : Err 0 ≡ Ok asked = e in cc)
accepted_is_line (word ∷ words) asked e = by (command_named word) refl
  where
    by : (found : Option CommandName) → command_named word ≡ found → AsksFor (word ∷ words) asked
    by None named =
        absurd (let h : Err 0 ≡ Ok asked = subst (λ f. behind_command words f ≡ Ok asked) named e in cc)
    by (Some of) named =
        let h = asked_ok of (items_from of 1 (reading [] None) words) asked
        (subst (λ f. behind_command words f ≡ Ok asked) named e) in
        let f : Follows of [] words h.0 = sound of 1 words h.0 [] None tt h.1 in
        let spelled : word ≡ (command_row of).name = same_word word (command_row of).name
        (found_passes (λ other. bytes_eq word (command_row other).name) commands of named) in
        let new : h.0 ≡ f.new = f.same in (
          of,
          h.0,
          record {
            written = ap (λ w. w ∷ words) spelled ∙
                (ap (λ ws. (command_row of).name ∷ ws) f.written ∙ ap
                (λ i. (command_row of).name ∷ flat_map item_words i) (sym new));
            follow = subst (λ i. EachMayFollow of [] i) (sym new) f.follow;
            whole = f.whole;
          },
          h.2,
        )

-- ---- the words of a line are read

pub and_true : (a b : Bool) → a ≡ true → b ≡ true → (a && b) ≡ true
and_true true true e f = refl
and_true true false e f = f
and_true false b e f = e

waits : (a : Argument) (before : List Item) (word : List ℕ) (given : CommandOption) → fits a before word ≡ true
    → begun (reading before None) given a ≡ reading before (Some given)
waits Nothing before word given e = absurd (let h : false ≡ true = e in cc)
waits Output before word given e = refl
waits (Number most) before word given e = refl

pub reads_line : (of : CommandName) (at : ℕ) (before new : List Item) → EachMayFollow of before new
    → is_whole of (before ++ new) ≡ true
    → items_from of at (reading before None) (flat_map item_words new) ≡ Ok (before ++ new)
reads_line of at before [] follow whole =
    let same : before ++ [] ≡ before = append-nil before in
    let w : is_whole of before ≡ true = subst (λ i. is_whole of i ≡ true) same whole in
    ap (λ b. if b then Ok before else Err at) w ∙ ap Ok (sym same)
reads_line of at before (Name word ∷ new) follow whole =
    let assoc : (before ++ Name word ∷ []) ++ new ≡ before ++ (Name word ∷ new) = append_assoc before (Name word ∷ [])
    new in
    let read : Reading → Result (List Item) ℕ = λ next. items_from of (at + 1) next (flat_map item_words new) in
    ap (λ f. go_on at read (with_option of (reading before None) word f)) (name_is_no_option of word follow.0.0)
    ∙ (ap (λ b. go_on at read (if b then Some (with_item (reading before None) (Name word)) else None))
    (and_true (is_name word) (has_room (command_row of).most (count_by is_name_item before)) follow.0.0 follow.0.1)
    ∙ (reads_line of (at + 1) (before ++ Name word ∷ []) new follow.1
    (subst (λ i. is_whole of i ≡ true) (sym assoc) whole) ∙ ap Ok assoc))
reads_line of at before (Switch given ∷ new) follow whole =
    let assoc : (before ++ Switch given ∷ []) ++ new ≡ before ++ (Switch given ∷ new) = append_assoc before
    (Switch given ∷ []) new in
    let read : Reading → Result (List Item) ℕ = λ next. items_from of (at + 1) next (flat_map item_words new) in
    ap (λ f. go_on at read (with_option of (reading before None) (option_row given).name f)) follow.0.0
    ∙ (ap (λ b. go_on at read (if b then Some (begun (reading before None) given (option_row given).argument) else
    None)) follow.0.2
    ∙ (ap (λ a. read (begun (reading before None) given a)) follow.0.1
    ∙ (reads_line of (at + 1) (before ++ Switch given ∷ []) new follow.1
    (subst (λ i. is_whole of i ≡ true) (sym assoc) whole) ∙ ap Ok assoc)))
reads_line of at before (Setting given word ∷ new) follow whole =
    let assoc : (before ++ Setting given word ∷ []) ++ new ≡ before ++ (Setting given word ∷ new) = append_assoc before
    (Setting given word ∷ []) new in
    let read : Reading → Result (List Item) ℕ = λ next. items_from of (at + 1) next (word ∷ flat_map item_words new) in
    let read' : Reading → Result (List Item) ℕ = λ next. items_from of (at + 1 + 1) next (flat_map item_words new) in
    ap (λ f. go_on at read (with_option of (reading before None) (option_row given).name f)) follow.0.0
    ∙ (ap (λ b. go_on at read (if b then Some (begun (reading before None) given (option_row given).argument) else
    None)) follow.0.2
    ∙ (ap read (waits (option_row given).argument before word given follow.0.1)
    ∙ (ap (λ b. go_on (at + 1) read'
    (if b then Some (with_item (reading before (Some given)) (Setting given word)) else None)) follow.0.1
    ∙ (reads_line of (at + 1 + 1) (before ++ Setting given word ∷ []) new follow.1
    (subst (λ i. is_whole of i ≡ true) (sym assoc) whole) ∙ ap Ok assoc))))

pub line_is_accepted : (words : List (List ℕ)) (asked : Command) → AsksFor words asked → command_of words ≡ Ok asked
line_is_accepted words asked h =
    ap command_of h.2.written
    ∙ (ap (behind_command (flat_map item_words h.1)) (commands_are_named h.0)
    ∙ (ap (asked_for h.0) (reads_line h.0 1 [] h.1 h.2.follow h.2.whole) ∙ ap Ok (sym h.3)))
