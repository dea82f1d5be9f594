-- The command line of `betr`, and the options in its words.
use Rattle.std.specs.Prelude.{◌≡◌, ℕ, Bool, false, true, List, [], ◌∷◌, Option, Some, pos, codes}
use Rattle.std.specs.Option.{option_map_or}
use Rattle.std.specs.Str.{bytes_eq}
use Rattle.std.specs.Str.Parse.{digits_value, without_leading_plus}
use Rattle.clap.specs.Words.{App, IsParsedFrom, Row, Rule, Text, app_of, first_of, matches_of, new_app, new_rule, one_of}
use Rattle.clap.specs.declared.builder.action.ArgAction.TheVariants.{SetTrue}
use Rattle.clap.specs.declared.builder.command.Command.{Command}
use Rattle.clap.specs.declared.builder.value_parser.ValueParser.{ValueParser}
use Rattle.clap.specs.declared.builder.value_parser.ValueParser.TheVariants as parser
use Rattle.clap.specs.declared.parser.matches.ArgMatches.{ArgMatches}

-- ---- what is known

-- an option with a value
abbrev pub option_rule : Text → ValueParser → Rule
option_rule id parser = record (new_rule id) {
  long = Some id;
  value_names = 1;
  parser = Some parser;
}

-- an option with a value, a number from low to high
abbrev pub number_rule : Text → ℕ → ℕ → Rule
number_rule id low high = option_rule id (parser.Signed (pos low) (pos high))

-- an option with a value that may be any text
abbrev pub text_rule : Text → Rule
text_rule id = record (new_rule id) {
  long = Some id;
  value_names = 1;
}

-- an option without a value
abbrev pub switch_rule : Text → Rule
switch_rule id = record (new_rule id) {
  long = Some id;
  action = Some SetTrue;
  parser = Some parser.Bool;
}

abbrev pub rules : List Rule
rules = number_rule (codes "flushers") 0 8
    ∷ number_rule (codes "steps") 0 1000
    ∷ number_rule (codes "fanout") 4 64
    ∷ number_rule (codes "pending") 4 1024
    ∷ number_rule (codes "leaf") 4 1024
    ∷ text_rule (codes "load")
    ∷ switch_rule (codes "image")
    ∷ text_rule (codes "dot")
    ∷ switch_rule (codes "strict")
    ∷ switch_rule (codes "explain")
    ∷ new_rule (codes "SCRIPT")
    ∷ []

-- the program with its name, and only the option that prints the release
abbrev pub bare_betr : App
bare_betr =
    let app = new_app (codes "betr") in
    record app { top = record app.top { has_version = true } }

-- the command line of the program
unfoldable pub betr : App
betr = record bare_betr { top = record bare_betr.top { rules = rules } }

-- the program with the options of what is done beside the lines alone
abbrev pub betr_of_work : App
betr_of_work =
    record bare_betr { top = record bare_betr.top { rules = number_rule (codes "flushers") 0 8 ∷ number_rule (codes "steps") 0 1000 ∷ [] } }

-- the rules of the options that are numbers
abbrev pub number_rules : List Rule
number_rules = number_rule (codes "flushers") 0 8
    ∷ number_rule (codes "steps") 0 1000
    ∷ number_rule (codes "fanout") 4 64
    ∷ number_rule (codes "pending") 4 1024
    ∷ number_rule (codes "leaf") 4 1024
    ∷ []

-- the program with these options alone
abbrev pub betr_of_numbers : App
betr_of_numbers =
    record bare_betr { top = record bare_betr.top { rules = number_rules } }

-- ---- options

-- what `clap` makes of the words
unfoldable pub rows : List Text → List Row
rows words = matches_of betr words

-- the number that a text writes in decimal
abbrev pub decimal : Text → ℕ
decimal text = digits_value 10 (without_leading_plus text)

-- the number of the option `id` in the words, or `default` if they do not have it
abbrev pub number : Text → ℕ → List Text → ℕ
number id default words = option_map_or decimal (one_of id (rows words)) default

-- whether the words have the option `id`
abbrev pub is_on : Text → List Text → Bool
is_on id words = option_map_or (λ t. bytes_eq t (codes "true")) (one_of id (rows words)) false

-- the text that the words give the argument `id`
abbrev pub text : Text → List Text → Option Text
text id words = first_of id (rows words)

-- the matches are those of a parse of this command line
abbrev pub IsParseOf : App → ArgMatches → Type 0
IsParseOf app m = (c : Command) × (app_of c ≡ app) × IsParsedFrom c m
