-- What the words of a command line may be. An option may take the word behind it as its argument, as POSIX has it
-- ("Utility Conventions"); any other word is a name.
use Rattle.std.specs.Prelude.{◌≡◌, ℕ, Bool, true, false, not, ◌&&◌, ◌||◌, ◌==◌, nat_le, nat_lt, if◌then◌else◌}
use Rattle.std.specs.Prelude.{List, [], ◌∷◌, ◌++◌, length, count_by, codes, decimal, Option, Some, None}
use Rattle.std.specs.Prelude.{is_some}
use Rattle.std.specs.List.{find, flat_map, list_any, list_all}
use Rattle.std.specs.Str.{bytes_eq}
use Rattle.std.specs.Str.Parse.{digits_value}
use Rattle.ilc.specs.declared.grammar.Argument.{Argument}
use Rattle.ilc.specs.declared.grammar.Argument.TheVariants.{Nothing, Output, Number}
use Rattle.ilc.specs.declared.grammar.CommandName.{CommandName}
use Rattle.ilc.specs.declared.grammar.CommandName.TheVariants.{Body, Run, Dis, Asm}
use Rattle.ilc.specs.declared.grammar.CommandOption.{CommandOption}
use Rattle.ilc.specs.declared.grammar.CommandOption.TheVariants.{Out, Steps, Count}
use Rattle.ilc.specs.declared.grammar.Item.{Item}
use Rattle.ilc.specs.declared.grammar.Item.TheVariants.{Name, Switch, Setting}

-- ---- the tables

-- an option: how it is written, what it takes, and whether it may be given more than once
pub record OptionRow : Type 0 where
  pub name : List ℕ
  pub argument : Argument
  pub repeats : Bool

abbrev pub option : List ℕ → Argument → Bool → OptionRow
option name argument repeats = record { name = name; argument = argument; repeats = repeats }

-- the most steps that can be asked for
abbrev pub most_steps : ℕ
most_steps = 9223372036854775807

abbrev pub option_row : CommandOption → OptionRow
option_row Out = option (codes "-o") Output false
option_row Steps = option (codes "--steps") (Number most_steps) false
option_row Count = option (codes "--count") Nothing false

-- A command: how it is written, how many names it takes, at least and at most, which options it has, and which of them
-- are to be given.
pub record CommandRow : Type 0 where
  pub name : List ℕ
  pub least : ℕ
  pub most : Option ℕ
  pub options : List CommandOption
  pub required : List CommandOption

abbrev pub command : List ℕ → ℕ → Option ℕ → List CommandOption → List CommandOption → CommandRow
command name least most options required =
    record { name = name; least = least; most = most; options = options; required = required }

abbrev pub command_row : CommandName → CommandRow
command_row Body = command (codes "body") 1 (Some 1) (Out ∷ []) (Out ∷ [])
command_row Run = command (codes "run") 1 (Some 1) (Steps ∷ Count ∷ []) []
command_row Dis = command (codes "dis") 1 (Some 1) [] []
command_row Asm = command (codes "asm") 1 (Some 1) (Out ∷ []) (Out ∷ [])

abbrev pub commands : List CommandName
commands = Body ∷ Run ∷ Dis ∷ Asm ∷ []

-- ---- names and arguments

-- a name is not empty, and doesn't begin as an option does, with `-` (45)
abbrev pub is_name : List ℕ → Bool
is_name [] = false
is_name (byte ∷ bytes) = not (byte == 45)

-- the number at most `most` whose decimal digits the word is, if there is one
abbrev pub number_of : ℕ → List ℕ → Option ℕ
number_of most word =
    if nat_le (digits_value 10 word) most && bytes_eq word (decimal (digits_value 10 word))
    then Some (digits_value 10 word)
    else None

abbrev pub is_name_item : Item → Bool
is_name_item (Name word) = true
is_name_item (Switch given) = false
is_name_item (Setting given word) = false

-- the item gives this option
abbrev pub gives : CommandOption → Item → Bool
gives wanted (Name word) = false
gives wanted (Switch given) = bytes_eq (option_row given).name (option_row wanted).name
gives wanted (Setting given word) = bytes_eq (option_row given).name (option_row wanted).name

abbrev pub is_output : Argument → Bool
is_output Nothing = false
is_output Output = true
is_output (Number most) = false

-- the item names this file as one that is written
abbrev pub writes_to : List ℕ → Item → Bool
writes_to file (Name word) = false
writes_to file (Switch given) = false
writes_to file (Setting given word) = is_output (option_row given).argument && bytes_eq word file

abbrev pub is_given : CommandOption → List Item → Bool
is_given wanted items = list_any (gives wanted) items

-- A word can be such an argument behind these items. The files that are written have names, and no two the same.
abbrev pub fits : Argument → List Item → List ℕ → Bool
fits Nothing items word = false
fits Output items word = not (length word == 0) && not (list_any (writes_to word) items)
fits (Number most) items word = is_some (number_of most word)

-- an option can be given behind these items
abbrev pub may_be_given : CommandOption → List Item → Bool
may_be_given wanted items = (option_row wanted).repeats || not (is_given wanted items)

abbrev pub has_room : Option ℕ → ℕ → Bool
has_room None count = true
has_room (Some most) count = nat_lt count most

-- the option of a command that is written so
abbrev pub option_named : CommandName → List ℕ → Option CommandOption
option_named of word = find (λ given. bytes_eq word (option_row given).name) (command_row of).options

abbrev pub command_named : List ℕ → Option CommandName
command_named word = find (λ of. bytes_eq word (command_row of).name) commands

-- ---- lines

-- the words of an item
abbrev pub item_words : Item → List (List ℕ)
item_words (Name word) = word ∷ []
item_words (Switch given) = (option_row given).name ∷ []
item_words (Setting given word) = (option_row given).name ∷ word ∷ []

-- the command has the option
abbrev pub Has : CommandName → CommandOption → Type 0
Has of given = option_named of (option_row given).name ≡ Some given

-- An item may stand behind these.
abbrev pub MayFollow : CommandName → List Item → Item → Type 0
MayFollow of before (Name word) =
    (is_name word ≡ true) × (has_room (command_row of).most (count_by is_name_item before) ≡ true)
MayFollow of before (Switch given) =
    Has of given × ((option_row given).argument ≡ Nothing) × (may_be_given given before ≡ true)
MayFollow of before (Setting given word) =
    Has of given × (fits (option_row given).argument before word ≡ true) × (may_be_given given before ≡ true)

-- each of the items may stand behind `before` and those of them that come earlier
abbrev pub EachMayFollow : CommandName → List Item → List Item → Type 0
EachMayFollow of before [] = Unit {0}
EachMayFollow of before (item ∷ items) = MayFollow of before item × EachMayFollow of (before ++ item ∷ []) items

-- there are enough names, and each option that is to be given is
abbrev pub is_whole : CommandName → List Item → Bool
is_whole of items =
    nat_le (command_row of).least (count_by is_name_item items)
    && list_all (λ wanted. is_given wanted items) (command_row of).required

-- The words are a line of the command: its name, and names and options in any order.
pub record IsLine (of : CommandName) (items : List Item) (words : List (List ℕ)) : Type 0 where
  pub written : words ≡ (command_row of).name ∷ flat_map item_words items
  pub follow : EachMayFollow of [] items
  pub whole : is_whole of items ≡ true
