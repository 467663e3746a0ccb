-- How the words of the command line are read: from the left, and the first that is wrong is told by its index.
use Rattle.std.specs.Prelude.{◌≡◌, ℕ, ◌+◌, ◌<◌, ◌≤◌, ◌&&◌, if◌then◌else◌, List, [], ◌∷◌, ◌++◌}
use Rattle.std.specs.Prelude.{length, count_by, take, Option, Some, None, unwrap_or, Result, Ok, Err}
use Rattle.ilc.specs.Grammar.{option_row, command_row, is_name, is_name_item, number_of, most_steps, gives, is_given}
use Rattle.ilc.specs.Grammar.{fits, may_be_given, has_room, option_named, command_named, is_whole, IsLine}
use Rattle.ilc.specs.declared.command.Command.{Command}
use Rattle.ilc.specs.declared.command.Command.TheVariants.{Body as BodyCommand, Run as RunCommand}
use Rattle.ilc.specs.declared.command.Command.TheVariants.{Dis as DisCommand, Asm as AsmCommand}
use Rattle.ilc.specs.declared.grammar.Argument.{Argument}
use Rattle.ilc.specs.declared.grammar.Argument.TheVariants.{Nothing, Output, Number}
use Rattle.ilc.specs.declared.grammar.CommandName.{CommandName}
use Rattle.ilc.specs.declared.grammar.CommandName.TheVariants.{Body, Run, Dis, Asm}
use Rattle.ilc.specs.declared.grammar.CommandOption.{CommandOption}
use Rattle.ilc.specs.declared.grammar.CommandOption.TheVariants.{Out, Steps, Count}
use Rattle.ilc.specs.declared.grammar.Item.{Item}
use Rattle.ilc.specs.declared.grammar.Item.TheVariants.{Name, Switch, Setting}
use Rattle.ilc.specs.declared.reading.Reading.{Reading}
use Rattle.ilc.specs.declared.reading.WordsFault.{WordsFault}
use Rattle.ilc.specs.declared.reading.WordsFault.TheVariants.{Wrong, Memory}

-- the items so far, and the option that takes the next word as its argument, if there is one
abbrev pub reading : List Item → Option CommandOption → Reading
reading items awaits = record { items = items; awaits = awaits }

abbrev pub with_item : Reading → Item → Reading
with_item before item = reading (before.items ++ item ∷ []) None

-- what comes of an option
abbrev pub begun : Reading → CommandOption → Argument → Reading
begun before given Nothing = with_item before (Switch given)
begun before given Output = reading before.items (Some given)
begun before given (Number most) = reading before.items (Some given)

-- what comes of a word that is this option, or a name
abbrev pub with_option : CommandName → Reading → List ℕ → Option CommandOption → Option Reading
with_option of before word (Some given) =
    if may_be_given given before.items then Some (begun before given (option_row given).argument) else None
with_option of before word None =
    if is_name word && has_room (command_row of).most (count_by is_name_item before.items)
    then Some (with_item before (Name word))
    else None

-- what comes of a word that is the argument of an option
abbrev pub with_argument : Reading → List ℕ → CommandOption → Option Reading
with_argument before word given =
    if fits (option_row given).argument before.items word then Some (with_item before (Setting given word)) else None

-- what comes of a word, or nothing where it is wrong
abbrev pub with_word : CommandName → Reading → List ℕ → Option CommandOption → Option Reading
with_word of before word (Some given) = with_argument before word given
with_word of before word None = with_option of before word (option_named of word)

-- the items, where no word is missing
abbrev pub ended : CommandName → ℕ → List Item → Option CommandOption → Result (List Item) ℕ
ended of at items (Some given) = Err at
ended of at items None = if is_whole of items then Ok items else Err at

-- the word at an index is wrong, or reading goes on
abbrev pub go_on : ℕ → (Reading → Result (List Item) ℕ) → Option Reading → Result (List Item) ℕ
go_on at read None = Err at
go_on at read (Some next) = read next

-- The items of the words from the index `at` on, or the index of the first that is wrong, which is that behind the last
-- where one is missing.
abbrev pub items_from : CommandName → ℕ → Reading → List (List ℕ) → Result (List Item) ℕ
items_from of at before [] = ended of at before.items before.awaits
items_from of at before (word ∷ words) =
    go_on at (λ next. items_from of (at + 1) next words) (with_word of before word before.awaits)

-- ---- what is asked for

-- how many steps are done where no number is given
abbrev pub default_steps : ℕ
default_steps = 1000000000000

-- the first name, or no bytes
abbrev pub first_name : List Item → List ℕ
first_name [] = []
first_name (Name word ∷ items) = word
first_name (Switch given ∷ items) = first_name items
first_name (Setting given word ∷ items) = first_name items

-- the argument of an option, or no bytes
abbrev pub argument_of : CommandOption → List Item → List ℕ
argument_of wanted [] = []
argument_of wanted (Name word ∷ items) = argument_of wanted items
argument_of wanted (Switch given ∷ items) = argument_of wanted items
argument_of wanted (Setting given word ∷ items) =
    if gives wanted (Setting given word) then word else argument_of wanted items

abbrev pub command_from : CommandName → List Item → Command
command_from Body items = BodyCommand (first_name items) (argument_of Out items)
command_from Run items =
    RunCommand (first_name items) (unwrap_or (number_of most_steps (argument_of Steps items)) default_steps)
    (is_given Count items)
command_from Dis items = DisCommand (first_name items)
command_from Asm items = AsmCommand (first_name items) (argument_of Out items)

abbrev pub asked_for : CommandName → Result (List Item) ℕ → Result Command ℕ
asked_for of (Ok items) = Ok (command_from of items)
asked_for of (Err index) = Err index

abbrev pub behind_command : List (List ℕ) → Option CommandName → Result Command ℕ
behind_command words None = Err 0
behind_command words (Some of) = asked_for of (items_from of 1 (reading [] None) words)

-- the command that the words give, or the index of the first that is wrong or missing
abbrev pub command_of : List (List ℕ) → Result Command ℕ
command_of [] = Err 0
command_of (word ∷ words) = behind_command words (command_named word)

-- what reading the words gives, unless memory ran out
abbrev pub Reads : {X : Type 0} → Result X WordsFault → Result X ℕ → Type 0
Reads (Ok x) found = found ≡ Ok x
Reads (Err (Wrong index)) found = found ≡ Err index
Reads (Err Memory) found = Unit {0}

-- ---- what that means

-- the words are those of a line, and this is the command that it asks for
abbrev pub AsksFor : List (List ℕ) → Command → Type 0
AsksFor words asked =
    (of : CommandName) × (items : List Item) × IsLine of items words × (asked ≡ command_from of items)

-- The words in front of the one at `index` are the front of a line, and no line goes on with that one, if it is there;
-- if it isn't, the words are no line.
pub record IsFirstWrong (index : ℕ) (words : List (List ℕ)) : Type 0 where
  pub within : index ≤ length words
  pub front : (rest : List (List ℕ)) × (asked : Command) × AsksFor (take index words ++ rest) asked
  pub wrong : index < length words →
      (rest : List (List ℕ)) (asked : Command) → AsksFor (take (index + 1) words ++ rest) asked → ⊥
  pub missing : (asked : Command) → AsksFor words asked → ⊥
