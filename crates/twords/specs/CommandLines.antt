-- What the words of a command line ask for, by what `clap` reads of them for these commands.
-- Source: the forms of the commands are our own choice; `Rattle.clap.specs` says how `clap` reads words, and why it
-- refuses them.
use Rattle.std.specs.Prelude.{ℕ, refl, ◌≡◌, true, false, List, [], ◌∷◌, Option, Some, None, ◌++◌, map, codes, bytes_eq}
use Rattle.std.specs.Prelude.{Result, Ok, Err, pos, negsuc}
use Rattle.std.specs.Prelude.{option_and_then, if◌then◌else◌, IsSomeAnd, Bool, ◌==◌, ◌&&◌, nat_le, drop, length}
use Rattle.std.specs.Prelude.{string_bytes, ◌≤◌}
use Rattle.std.specs.List.{find, fold}
use Rattle.clap.specs.Words.{Text, Rule, Row, Shape, App, Kinds, app_of, subcommand_of, fault_of, with_subcommand}
use Rattle.clap.specs.Simple.{new_shape}
use Rattle.clap.proofs.OnLiterals.{clap_on_literals}
use Rattle.clap.specs.declared.error.kind.ErrorKind.TheVariants.{DisplayHelp, DisplayHelpOnMissingArgumentOrSubcommand}
use Rattle.clap.specs.declared.error.kind.ErrorKind.TheVariants.{DisplayVersion, MissingRequiredArgument}
use Rattle.clap.specs.declared.error.kind.ErrorKind.TheVariants.{UnknownArgument}
use Rattle.clap.specs.Kinds.{or_else}
use Rattle.clap.specs.declared.error.kind.ErrorKind.TheVariants.{InvalidValue, TooManyValues, ValueValidation}
use Rattle.clap.specs.declared.builder.arg.Arg.{Arg}
use Rattle.clap.specs.declared.builder.command.Command.{Command as Parser}
use Rattle.clap.specs.declared.builder.command.Command.TheViews.{out-Command as fields_of}
use Rattle.clap.specs.declared.builder.value_parser.ValueParser.TheVariants.{Signed}
use Rattle.tword.specs.declared.kind.Kind.TheVariants.{One, Two}
use Rattle.twords.specs.Arguments.{file_rule, flag_rule, number_rule, option_rule, text_rule, texts_rule}
use Rattle.twords.specs.Arguments.{wanted_number_rule, wanted_rule, HasAll}
use Rattle.twords.specs.NamesFiles.{names_file_of}
use Rattle.twords.specs.Table.{asked_in, commands, name_of, rules_of}
use Rattle.tplan.specs.declared.options.Options.{Options}
use Rattle.twords.specs.declared.table.Show.{Show}
use Rattle.twords.specs.declared.table.Show.TheVariants as show
use Rattle.twords.specs.declared.table.Printing.{Printing}
use Rattle.twords.specs.declared.table.Printing.TheVariants as printing
use Rattle.twords.specs.declared.table.Running.{Running}
use Rattle.twords.specs.declared.table.Exploring.{Exploring}
use Rattle.twords.specs.declared.certifying.Certifying.{Certifying}
use Rattle.twords.specs.declared.histories.Stepping.{Stepping}
use Rattle.twords.specs.declared.histories.Watching.{Watching}
use Rattle.twords.specs.declared.names_files.NamesFile.{NamesFile}
use Rattle.twords.specs.declared.table.Command.{Command}
use Rattle.twords.specs.declared.table.Command.TheVariants as command
use Rattle.twords.specs.declared.table.Which.{Which}
use Rattle.twords.specs.declared.joined_words.First.{First}
use Rattle.twords.specs.declared.table.CommandRow.{CommandRow}
use Rattle.twords.specs.declared.table.Argument.{Argument}
use Rattle.twords.specs.declared.table.Form.{Form}
use Rattle.twords.specs.declared.table.Form.TheVariants as form

-- ---- the words that are taken

-- a command with this name and these arguments
abbrev pub shape : Text → List Rule → Shape
shape name rules = record (new_shape name) { rules = rules }

-- a command of the table, with its name and its arguments
abbrev pub shape_of : Which → Shape
shape_of which = shape (name_of which) (rules_of which)

-- the program without its commands, of which one has to be named; it tells its version
abbrev pub top : App
top = record {
  top = record (new_shape (codes "temu")) {
    has_version = true;
    disable_help_subcommand = true;
    arg_required_else_help = true;
    subcommand_required = true;
  };
  subs = [];
}

-- the program with its commands
abbrev pub program : App
program = fold (λ app which. with_subcommand app (shape_of which)) top commands

-- ---- what they ask for

-- the command of a name
abbrev pub named : Text → Option Which
named name = find (λ which. bytes_eq (name_of which) name) commands

-- what a name and arguments ask for
abbrev pub command_in : Option (Text × List Row) → Option Command
command_in None = None
command_in (Some (name, rows)) = option_and_then (λ which. asked_in which rows) (named name)

-- the program's name, some words, and `--help`
abbrev pub asking_help : Text → List Text → List Text
asking_help name words = (name ∷ []) ++ words ++ codes "--help" ∷ []

-- the words, in which `help ..` behind the program's name stands for `.. --help`
abbrev pub with_help_option : List Text → List Text
with_help_option (name ∷ word ∷ words) =
    if bytes_eq word (codes "help") then asking_help name words else name ∷ word ∷ words
with_help_option words = words

-- a word is a minus and a digit, whatever follows
abbrev pub is_negative : Text → Bool
is_negative (minus ∷ digit ∷ rest) = minus == 45 && (nat_le 48 digit && nat_le digit 57)
is_negative word = false

-- a word and the one behind it are `--events` and a negative number
abbrev pub joins : Text → Text → Bool
joins word next = bytes_eq word (codes "--events") && is_negative next

-- an option and its value as one word
abbrev pub joined_word : Text → Text → Text
joined_word option value = option ++ (codes "=" ++ value)

-- words in which `--events` and a negative number behind it are one word, which `clap` takes for no other option
abbrev pub with_events_joined : List Text → List Text
with_events_joined (word ∷ next ∷ words) =
    if joins word next then joined_word word next ∷ with_events_joined words
    else word ∷ with_events_joined (next ∷ words)
with_events_joined words = words

-- the words as the parser gets them
abbrev pub plain_words : List Text → List Text
plain_words words = with_events_joined (with_help_option words)

-- what words with no `help` ask for, where they are taken
abbrev pub command_without_help : List Text → Option Command
command_without_help words = command_in (subcommand_of program words)

-- what the words ask for, where they are taken
abbrev pub command_of : List Text → Option Command
command_of words = command_without_help (plain_words words)

-- the command that was taken, where it is told what the words ask for
abbrev pub command_taken : {E : Type 0} → Result Command E → Option Command
command_taken (Ok asked) = Some asked
command_taken (Err unread) = None

-- why what the parser takes is refused: it asks for nothing, by a word of an option that stands for nothing
abbrev pub unread : Option Command → Kinds
unread (Some asked) = []
unread None = InvalidValue ∷ []

-- why words with no `help` are refused: help is asked for by `--help`, or they are a mistake
abbrev pub refusals_without_help : List Text → Kinds
refusals_without_help words = or_else (fault_of program words) (unread (command_without_help words))

-- why the words are refused: help is asked for, or they are a mistake; none where they are taken
abbrev pub refusals : List Text → Kinds
refusals words = refusals_without_help (plain_words words)

-- ---- what the private functions speak of

-- there is a command of this name, and its arguments are there
abbrev pub IsWhole : Text → List Row → Type 0
IsWhole name rows = IsSomeAnd (named name) (λ which. HasAll (rules_of which) rows)

-- an argument of this name that takes this
abbrev pub rule_of_form : Text → Form → Rule
rule_of_form name form.File = file_rule name
rule_of_form name form.Text = option_rule name
rule_of_form name (form.TextOr default) = text_rule name default.now
rule_of_form name form.Texts = texts_rule name
rule_of_form name form.Flag = flag_rule name
rule_of_form name form.WantedText = wanted_rule name
rule_of_form name (form.WantedNumber least most) = wanted_number_rule name (Signed least most)
rule_of_form name (form.Number least most default) = number_rule name (Signed least most) default.now

-- an argument of the table, by its name and what it takes
abbrev pub rule_of_row : Argument → Rule
rule_of_row a = rule_of_form a.name.now a.form

-- a command with the arguments of more rows
abbrev pub with_rows : Shape → List Argument → Shape
with_rows s rows = record s { rules = s.rules ++ map rule_of_row rows }

-- a command with the name and the arguments of a row
abbrev pub shape_of_row : CommandRow → Shape
shape_of_row row = with_rows (shape row.name.now []) row.arguments.now

-- a parser reads a command of this shape, and no subcommand
abbrev pub HasShape : Shape → Parser → Type 0
HasShape shape c = (app_of c ≡ record { top = shape; subs = [] }) × ((fields_of c).has_globals ≡ false)

-- some words with `--events` joined begin with this first word, and behind it are the others, joined; there is none
-- where there are no words
abbrev pub IsFirst : List Text → Option First → Type 0
IsFirst words None = words ≡ []
IsFirst words (Some first) =
    (with_events_joined words ≡ string_bytes first.word ∷ with_events_joined (drop first.taken words))
    × (1 ≤ first.taken) × (first.taken ≤ length words)

-- the argument is its command's alone
abbrev pub IsLocal : Arg → Type 0
IsLocal a = a.global ≡ false

-- ---- examples

-- what is asked for, part by part; a history of `pair.log` on `pair.toml`
abbrev running : Text → Options → Option Text → Printing → Running
running named options log what = record { wiring = named; options = options; log = log; printing = what }

abbrev exploring : Text → (states steps : ℕ) → Option Text → Show → Exploring
exploring named states steps log what =
    record { wiring = named; states = states; steps = steps; log = log; show = what; certify = false }

abbrev certifying : Text → (steps : ℕ) → List NamesFile → Certifying
certifying named steps files = record { wiring = named; steps = steps; names = files }

abbrev stepping : (node from to last : ℕ) → List NamesFile → Stepping
stepping node from to last named =
    record {
      wiring = codes "pair.toml";
      log = codes "pair.log";
      node = node;
      from = from;
      to = to;
      last = last;
      names = named;
    }

abbrev watching : (node address length : ℕ) → List NamesFile → Watching
watching node address length named =
    record {
      wiring = codes "pair.toml";
      log = codes "pair.log";
      node = node;
      address = address;
      length = length;
      names = named;
    }

-- the options of a run by default
abbrev usual_options : Options
usual_options = record { workers = 1; rounds = 100000; slice = 64 }

abbrev words_of_run : List Text
words_of_run = codes "temu" ∷ codes "run" ∷ codes "--rounds" ∷ codes "7" ∷ codes "pair.toml" ∷ codes "--log=pair.log"
    ∷ codes "--workers" ∷ codes "64" ∷ []

-- options of `run` in any order, and one by default
example_run : command_of words_of_run
    ≡ Some
    (command.Run (running (codes "pair.toml") (record { workers = 64; rounds = 7; slice = 64 })
    (Some (codes "pair.log")) (printing.Lines show.Dump)))
unfolding clap_on_literals
example_run = refl

-- all words of `free`
example_free : command_of (codes "temu" ∷ codes "free" ∷ codes "--log" ∷ codes "pair.log" ∷ codes "--turns=7"
    ∷ codes "pair.toml" ∷ codes "--slice" ∷ codes "65536" ∷ [])
    ≡ Some
    (command.Free (running (codes "pair.toml") (record { workers = 1; rounds = 7; slice = 65536 })
    (Some (codes "pair.log")) (printing.Lines show.Dump)))
unfolding clap_on_literals
example_free = refl

-- all options of `run` by default
example_defaults : command_of (codes "temu" ∷ codes "run" ∷ codes "pair.toml" ∷ [])
    ≡ Some (command.Run (running (codes "pair.toml") usual_options None (printing.Lines show.Dump)))
unfolding clap_on_literals
example_defaults = refl

-- where the net stands behind the trace, or the trace alone
example_run_where : command_of
    (codes "temu" ∷ codes "run" ∷ codes "--show=where" ∷ codes "pair.toml" ∷ codes "--rounds" ∷ codes "40" ∷ [])
    ≡ Some
    (command.Run (running (codes "pair.toml") (record { workers = 1; rounds = 40; slice = 64 }) None
    (printing.Lines show.Where)))
unfolding clap_on_literals
example_run_where = refl

example_free_none : command_of (codes "temu" ∷ codes "free" ∷ codes "pair.toml" ∷ codes "--show" ∷ codes "none" ∷ [])
    ≡ Some (command.Free (running (codes "pair.toml") usual_options None (printing.Lines show.Nothing)))
unfolding clap_on_literals
example_free_none = refl

-- the same as JSON, with the trace alone or with the nodes behind it
example_run_json : command_of (codes "temu" ∷ codes "run" ∷ codes "pair.toml" ∷ codes "--json" ∷ [])
    ≡ Some (command.Run (running (codes "pair.toml") usual_options None (printing.Json true)))
unfolding clap_on_literals
example_run_json = refl

example_free_json : command_of (codes "temu" ∷ codes "free" ∷ codes "--json" ∷ codes "pair.toml" ∷ codes "--show=dump"
    ∷ [])
    ≡ Some (command.Free (running (codes "pair.toml") usual_options None (printing.Json true)))
unfolding clap_on_literals
example_free_json = refl

example_replay_json : command_of (codes "temu" ∷ codes "replay" ∷ codes "pair.toml" ∷ codes "pair.log" ∷ codes "--json"
    ∷ codes "--show" ∷ codes "none" ∷ [])
    ≡ Some (command.Replay (codes "pair.toml") (codes "pair.log") (pos 4294967295) (printing.Json false))
unfolding clap_on_literals
example_replay_json = refl

example_free_defaults : command_of (codes "temu" ∷ codes "free" ∷ codes "pair.toml" ∷ [])
    ≡ Some (command.Free (running (codes "pair.toml") usual_options None (printing.Lines show.Dump)))
unfolding clap_on_literals
example_free_defaults = refl

-- a million states, or a given number; all steps, or a given number
example_explore : command_of (codes "temu" ∷ codes "explore" ∷ codes "pair.toml" ∷ [])
    ≡ Some (command.Explore (exploring (codes "pair.toml") 1000000 9223372036854775807 None show.Dump))
unfolding clap_on_literals
example_explore = refl

example_explore_some : command_of (codes "temu" ∷ codes "explore" ∷ codes "--steps=4294967296" ∷ codes "pair.toml"
    ∷ codes "--states" ∷ codes "0" ∷ [])
    ≡ Some (command.Explore (exploring (codes "pair.toml") 0 4294967296 None show.Dump))
unfolding clap_on_literals
example_explore_some = refl

-- where the net stands
example_explore_where : command_of (codes "temu" ∷ codes "explore" ∷ codes "pair.toml" ∷ codes "--show" ∷ codes "where"
    ∷ [])
    ≡ Some (command.Explore (exploring (codes "pair.toml") 1000000 9223372036854775807 None show.Where))
unfolding clap_on_literals
example_explore_where = refl

-- with logs, and no dumps
example_explore_log : command_of (codes "temu" ∷ codes "explore" ∷ codes "--log=found" ∷ codes "pair.toml"
    ∷ codes "--show" ∷ codes "none" ∷ [])
    ≡ Some (command.Explore (exploring (codes "pair.toml") 1000000 9223372036854775807 (Some (codes "found"))
    show.Nothing))
unfolding clap_on_literals
example_explore_log = refl

-- where there is no certificate by as many steps, with dumps or only with headings
example_explore_certify : command_of
    (codes "temu" ∷ codes "explore" ∷ codes "--certify" ∷ codes "pair.toml" ∷ codes "--steps=100" ∷ [])
    ≡ Some (command.Explore (record (exploring (codes "pair.toml") 1000000 100 None show.Dump) { certify = true }))
unfolding clap_on_literals
example_explore_certify = refl

example_explore_certify_none : command_of
    (codes "temu" ∷ codes "explore" ∷ codes "pair.toml" ∷ codes "--show=none" ∷ codes "--certify" ∷ [])
    ≡ Some
    (command.Explore
    (record (exploring (codes "pair.toml") 1000000 9223372036854775807 None show.Nothing) { certify = true }))
unfolding clap_on_literals
example_explore_certify_none = refl

-- a certificate by all steps, or by a given number
example_certify : command_of (codes "temu" ∷ codes "certify" ∷ codes "pair.toml" ∷ [])
    ≡ Some (command.Certify (certifying (codes "pair.toml") 9223372036854775807 []))
unfolding clap_on_literals
example_certify = refl

example_certify_some : command_of (codes "temu" ∷ codes "certify" ∷ codes "pair.toml" ∷ codes "--steps" ∷ codes "100"
    ∷ codes "--names" ∷ codes "pair.names" ∷ [])
    ≡ Some (command.Certify (certifying (codes "pair.toml") 100 (names_file_of (codes "pair.names") ∷ [])))
unfolding clap_on_literals
example_certify_some = refl

example_replay : command_of (codes "temu" ∷ codes "replay" ∷ codes "pair.toml" ∷ codes "pair.log" ∷ [])
    ≡ Some (command.Replay (codes "pair.toml") (codes "pair.log") (pos 4294967295) (printing.Lines show.Dump))
unfolding clap_on_literals
example_replay = refl

-- the first events, and where the net stands then
example_replay_first : command_of (codes "temu" ∷ codes "replay" ∷ codes "--events" ∷ codes "7" ∷ codes "pair.toml"
    ∷ codes "--show" ∷ codes "where" ∷ codes "pair.log" ∷ [])
    ≡ Some (command.Replay (codes "pair.toml") (codes "pair.log") (pos 7) (printing.Lines show.Where))
unfolding clap_on_literals
example_replay_first = refl

-- all but the last three
example_replay_but : command_of
    (codes "temu" ∷ codes "replay" ∷ codes "pair.toml" ∷ codes "pair.log" ∷ codes "--events=-3" ∷ [])
    ≡ Some (command.Replay (codes "pair.toml") (codes "pair.log") (negsuc 2) (printing.Lines show.Dump))
unfolding clap_on_literals
example_replay_but = refl

example_replay_but_apart : command_of
    (codes "temu" ∷ codes "replay" ∷ codes "pair.toml" ∷ codes "--events" ∷ codes "-3" ∷ codes "pair.log" ∷ [])
    ≡ Some (command.Replay (codes "pair.toml") (codes "pair.log") (negsuc 2) (printing.Lines show.Dump))
unfolding clap_on_literals
example_replay_but_apart = refl

-- all events, the first of them, or all but the last
example_where : command_of (codes "temu" ∷ codes "where" ∷ codes "pair.toml" ∷ codes "pair.log" ∷ [])
    ≡ Some (command.Where (codes "pair.toml") (codes "pair.log") (pos 4294967295) [])
unfolding clap_on_literals
example_where = refl

example_where_first : command_of (codes "temu" ∷ codes "where" ∷ codes "pair.toml" ∷ codes "--events" ∷ codes "7"
    ∷ codes "pair.log" ∷ [])
    ≡ Some (command.Where (codes "pair.toml") (codes "pair.log") (pos 7) [])
unfolding clap_on_literals
example_where_first = refl

example_where_but : command_of (codes "temu" ∷ codes "where" ∷ codes "--events=-4294967295" ∷ codes "pair.toml"
    ∷ codes "pair.log" ∷ [])
    ≡ Some (command.Where (codes "pair.toml") (codes "pair.log") (negsuc 4294967294) [])
unfolding clap_on_literals
example_where_but = refl

-- names of each node, and of one alone
abbrev names_of_each : Text → NamesFile
names_of_each file = record { node = None; file = file }

abbrev names_of_node : ℕ → Text → NamesFile
names_of_node n file = record { node = Some n; file = file }

example_where_names : command_of (codes "temu" ∷ codes "where" ∷ codes "pair.toml" ∷ codes "--names" ∷ codes "1=b.names"
    ∷ codes "pair.log" ∷ codes "--names=a.names" ∷ [])
    ≡ Some
    (command.Where (codes "pair.toml") (codes "pair.log") (pos 4294967295)
    (names_of_node 1 (codes "b.names") ∷ names_of_each (codes "a.names") ∷ []))
unfolding clap_on_literals
example_where_names = refl

-- what stands before the sign is no node: a name, no digit, four digits, more than 255; the first sign counts
example_names_word : names_file_of (codes "a=b") ≡ names_of_each (codes "a=b")
example_names_word = refl

example_names_empty : names_file_of (codes "=b") ≡ names_of_each (codes "=b")
example_names_empty = refl

example_names_long : names_file_of (codes "0001=b") ≡ names_of_each (codes "0001=b")
example_names_long = refl

example_names_high : names_file_of (codes "256=b") ≡ names_of_each (codes "256=b")
example_names_high = refl

example_names_last : names_file_of (codes "255=b=c") ≡ names_of_node 255 (codes "b=c")
example_names_last = refl

example_names_zeros : names_file_of (codes "007=b") ≡ names_of_node 7 (codes "b")
example_names_zeros = refl

example_names_number : names_file_of (codes "12") ≡ names_of_each (codes "12")
example_names_number = refl

example_names_path : names_file_of (codes "./0=x") ≡ names_of_each (codes "./0=x")
example_names_path = refl

-- all events of a node, or the last of those from one number on and below another
example_steps : command_of
    (codes "temu" ∷ codes "steps" ∷ codes "pair.toml" ∷ codes "pair.log" ∷ codes "--node" ∷ codes "1" ∷ [])
    ≡ Some (command.Steps (stepping 1 0 4294967295 4294967295 []))
unfolding clap_on_literals
example_steps = refl

example_steps_some : command_of (codes "temu" ∷ codes "steps" ∷ codes "--from=40" ∷ codes "pair.toml" ∷ codes "--to"
    ∷ codes "80" ∷ codes "pair.log" ∷ codes "--last=20" ∷ codes "--node=255" ∷ [])
    ≡ Some (command.Steps (stepping 255 40 80 20 []))
unfolding clap_on_literals
example_steps_some = refl

example_steps_names : command_of (codes "temu" ∷ codes "steps" ∷ codes "pair.toml" ∷ codes "pair.log" ∷ codes "--node=1"
    ∷ codes "--names=a.names" ∷ [])
    ≡ Some (command.Steps (stepping 1 0 4294967295 4294967295 (names_of_each (codes "a.names") ∷ [])))
unfolding clap_on_literals
example_steps_names = refl

-- a word by its address, or a given number of bytes
example_watch : command_of (codes "temu" ∷ codes "watch" ∷ codes "pair.toml" ∷ codes "pair.log" ∷ codes "--node"
    ∷ codes "0" ∷ codes "--address" ∷ codes "80000100" ∷ [])
    ≡ Some (command.Watch (watching 0 2147483904 4 []))
unfolding clap_on_literals
example_watch = refl

example_watch_some : command_of (codes "temu" ∷ codes "watch" ∷ codes "--length" ∷ codes "65536" ∷ codes "pair.toml"
    ∷ codes "pair.log" ∷ codes "--address=#8000aF" ∷ codes "--node=3" ∷ [])
    ≡ Some (command.Watch (watching 3 8388783 65536 []))
unfolding clap_on_literals
example_watch_some = refl

example_watch_names : command_of (codes "temu" ∷ codes "watch" ∷ codes "pair.toml" ∷ codes "pair.log" ∷ codes "--node=0"
    ∷ codes "--address=80000100" ∷ codes "--names" ∷ codes "0=a.names" ∷ [])
    ≡ Some (command.Watch (watching 0 2147483904 4 (names_of_node 0 (codes "a.names") ∷ [])))
unfolding clap_on_literals
example_watch_names = refl

-- a picture of all events, or of the first of them
example_chart : command_of (codes "temu" ∷ codes "chart" ∷ codes "pair.toml" ∷ codes "pair.log" ∷ [])
    ≡ Some (command.Chart (codes "pair.toml") (codes "pair.log") (pos 4294967295))
unfolding clap_on_literals
example_chart = refl

example_chart_first : command_of (codes "temu" ∷ codes "chart" ∷ codes "pair.toml" ∷ codes "--events" ∷ codes "7"
    ∷ codes "pair.log" ∷ [])
    ≡ Some (command.Chart (codes "pair.toml") (codes "pair.log") (pos 7))
unfolding clap_on_literals
example_chart_first = refl

example_chart_but : command_of (codes "temu" ∷ codes "chart" ∷ codes "pair.toml" ∷ codes "pair.log" ∷ codes "--events"
    ∷ codes "-3" ∷ [])
    ≡ Some (command.Chart (codes "pair.toml") (codes "pair.log") (negsuc 2))
unfolding clap_on_literals
example_chart_but = refl

-- a wiring is looked through
example_check : command_of (codes "temu" ∷ codes "check" ∷ codes "pair.toml" ∷ [])
    ≡ Some (command.Check (codes "pair.toml"))
unfolding clap_on_literals
example_check = refl

-- of kind 1 by default
example_dis : command_of (codes "temu" ∷ codes "dis" ∷ codes "first.img" ∷ [])
    ≡ Some (command.Dis (codes "first.img") One None)
unfolding clap_on_literals
example_dis = refl

-- with names, of one file
example_dis_names : command_of (codes "temu" ∷ codes "dis" ∷ codes "first.img" ∷ codes "--names" ∷ codes "a.names" ∷ [])
    ≡ Some (command.Dis (codes "first.img") One (Some (codes "a.names")))
unfolding clap_on_literals
example_dis_names = refl

example_dis_second : command_of (codes "temu" ∷ codes "dis" ∷ codes "--kind" ∷ codes "2" ∷ codes "first.img" ∷ [])
    ≡ Some (command.Dis (codes "first.img") Two None)
unfolding clap_on_literals
example_dis_second = refl

example_dis_first : command_of (codes "temu" ∷ codes "dis" ∷ codes "first.img" ∷ codes "--kind=1" ∷ [])
    ≡ Some (command.Dis (codes "first.img") One None)
unfolding clap_on_literals
example_dis_first = refl

-- these words are taken
example_taken : refusals words_of_run ≡ []
unfolding clap_on_literals
example_taken = refl

-- a number out of its range, an option of another command, a file that is missing, no words, and help
example_workers : refusals (codes "temu" ∷ codes "run" ∷ codes "pair.toml" ∷ codes "--workers" ∷ codes "0" ∷ [])
    ≡ ValueValidation ∷ []
unfolding clap_on_literals
example_workers = refl

example_turns : refusals (codes "temu" ∷ codes "free" ∷ codes "pair.toml" ∷ codes "--turns" ∷ codes "4294967296" ∷ [])
    ≡ ValueValidation ∷ []
unfolding clap_on_literals
example_turns = refl

example_states : refusals
    (codes "temu" ∷ codes "explore" ∷ codes "pair.toml" ∷ codes "--states" ∷ codes "4294967296" ∷ [])
    ≡ ValueValidation ∷ []
unfolding clap_on_literals
example_states = refl

example_show : refusals (codes "temu" ∷ codes "explore" ∷ codes "pair.toml" ∷ codes "--show" ∷ codes "all" ∷ [])
    ≡ InvalidValue ∷ []
unfolding clap_on_literals
example_show = refl

example_show_of_run : refusals (codes "temu" ∷ codes "run" ∷ codes "pair.toml" ∷ codes "--show" ∷ codes "all" ∷ [])
    ≡ InvalidValue ∷ []
unfolding clap_on_literals
example_show_of_run = refl

-- where a net stands is told only in lines
example_json_where : refusals
    (codes "temu" ∷ codes "run" ∷ codes "pair.toml" ∷ codes "--json" ∷ codes "--show" ∷ codes "where" ∷ [])
    ≡ InvalidValue ∷ []
unfolding clap_on_literals
example_json_where = refl

-- `--json` has nothing behind it
example_json_value : refusals (codes "temu" ∷ codes "run" ∷ codes "pair.toml" ∷ codes "--json=true" ∷ [])
    ≡ TooManyValues ∷ []
unfolding clap_on_literals
example_json_value = refl

-- and an exploration has no JSON
example_explore_json : refusals (codes "temu" ∷ codes "explore" ∷ codes "pair.toml" ∷ codes "--json" ∷ [])
    ≡ UnknownArgument ∷ []
unfolding clap_on_literals
example_explore_json = refl

-- where a certificate is tried first, there are no logs, and it is not told where the net stands
example_certify_log : refusals (codes "temu" ∷ codes "explore" ∷ codes "pair.toml" ∷ codes "--certify" ∷ codes "--log"
    ∷ codes "found" ∷ [])
    ≡ InvalidValue ∷ []
unfolding clap_on_literals
example_certify_log = refl

example_certify_where : refusals (codes "temu" ∷ codes "explore" ∷ codes "--show=where" ∷ codes "pair.toml"
    ∷ codes "--certify" ∷ [])
    ≡ InvalidValue ∷ []
unfolding clap_on_literals
example_certify_where = refl

example_node : refusals
    (codes "temu" ∷ codes "steps" ∷ codes "pair.toml" ∷ codes "pair.log" ∷ codes "--node" ∷ codes "256" ∷ [])
    ≡ ValueValidation ∷ []
unfolding clap_on_literals
example_node = refl

example_no_node : refusals (codes "temu" ∷ codes "steps" ∷ codes "pair.toml" ∷ codes "pair.log" ∷ [])
    ≡ MissingRequiredArgument ∷ []
unfolding clap_on_literals
example_no_node = refl

example_length : refusals (codes "temu" ∷ codes "watch" ∷ codes "pair.toml" ∷ codes "pair.log" ∷ codes "--node=0"
    ∷ codes "--address=80000100" ∷ codes "--length=0" ∷ [])
    ≡ ValueValidation ∷ []
unfolding clap_on_literals
example_length = refl

example_no_address : refusals
    (codes "temu" ∷ codes "watch" ∷ codes "pair.toml" ∷ codes "pair.log" ∷ codes "--node" ∷ codes "0" ∷ [])
    ≡ MissingRequiredArgument ∷ []
unfolding clap_on_literals
example_no_address = refl

-- words that are no address: a letter that is no digit, nine digits, none
example_address : refusals (codes "temu" ∷ codes "watch" ∷ codes "pair.toml" ∷ codes "pair.log" ∷ codes "--node=0"
    ∷ codes "--address=8000010g" ∷ [])
    ≡ InvalidValue ∷ []
unfolding clap_on_literals
example_address = refl

example_long_address : refusals (codes "temu" ∷ codes "watch" ∷ codes "pair.toml" ∷ codes "pair.log"
    ∷ codes "--node=0" ∷ codes "--address" ∷ codes "080000100" ∷ [])
    ≡ InvalidValue ∷ []
unfolding clap_on_literals
example_long_address = refl

example_empty_address : refusals (codes "temu" ∷ codes "watch" ∷ codes "pair.toml" ∷ codes "pair.log"
    ∷ codes "--node=0" ∷ codes "--address" ∷ codes "#" ∷ [])
    ≡ InvalidValue ∷ []
unfolding clap_on_literals
example_empty_address = refl

example_events : refusals (codes "temu" ∷ codes "replay" ∷ codes "pair.toml" ∷ codes "pair.log"
    ∷ codes "--events=-4294967296" ∷ [])
    ≡ ValueValidation ∷ []
unfolding clap_on_literals
example_events = refl

example_kind : refusals (codes "temu" ∷ codes "dis" ∷ codes "--kind" ∷ codes "3" ∷ codes "first.img" ∷ [])
    ≡ ValueValidation ∷ []
unfolding clap_on_literals
example_kind = refl

example_no_kind : refusals (codes "temu" ∷ codes "dis" ∷ codes "--kind" ∷ codes "0" ∷ codes "first.img" ∷ [])
    ≡ ValueValidation ∷ []
unfolding clap_on_literals
example_no_kind = refl

example_unknown : refusals (codes "temu" ∷ codes "run" ∷ codes "pair.toml" ∷ codes "--turns" ∷ codes "5" ∷ [])
    ≡ UnknownArgument ∷ []
unfolding clap_on_literals
example_unknown = refl

example_explore_unknown : refusals
    (codes "temu" ∷ codes "explore" ∷ codes "pair.toml" ∷ codes "--workers" ∷ codes "4" ∷ [])
    ≡ UnknownArgument ∷ []
unfolding clap_on_literals
example_explore_unknown = refl

example_free_unknown : refusals (codes "temu" ∷ codes "free" ∷ codes "pair.toml" ∷ codes "--rounds" ∷ codes "5" ∷ [])
    ≡ UnknownArgument ∷ []
unfolding clap_on_literals
example_free_unknown = refl

example_chart_missing : refusals (codes "temu" ∷ codes "chart" ∷ codes "pair.toml" ∷ []) ≡ MissingRequiredArgument ∷ []
unfolding clap_on_literals
example_chart_missing = refl

example_missing : refusals (codes "temu" ∷ codes "replay" ∷ codes "pair.toml" ∷ []) ≡ MissingRequiredArgument ∷ []
unfolding clap_on_literals
example_missing = refl

example_free_missing : refusals (codes "temu" ∷ codes "free" ∷ codes "--turns" ∷ codes "5" ∷ [])
    ≡ MissingRequiredArgument ∷ []
unfolding clap_on_literals
example_free_missing = refl

example_nothing : refusals (codes "temu" ∷ []) ≡ DisplayHelpOnMissingArgumentOrSubcommand ∷ []
unfolding clap_on_literals
example_nothing = refl

example_help : refusals (codes "temu" ∷ codes "run" ∷ codes "--help" ∷ []) ≡ DisplayHelp ∷ []
unfolding clap_on_literals
example_help = refl

example_help_word : refusals (codes "temu" ∷ codes "help" ∷ []) ≡ DisplayHelp ∷ []
unfolding clap_on_literals
example_help_word = refl

example_help_of_free : refusals (codes "temu" ∷ codes "help" ∷ codes "free" ∷ []) ≡ DisplayHelp ∷ []
unfolding clap_on_literals
example_help_of_free = refl

-- a file may be called so
example_help_file : command_of (codes "temu" ∷ codes "dis" ∷ codes "help" ∷ [])
    ≡ Some (command.Dis (codes "help") One None)
unfolding clap_on_literals
example_help_file = refl

-- the version, which is the program's alone
example_version : refusals (codes "temu" ∷ codes "--version" ∷ []) ≡ DisplayVersion ∷ []
unfolding clap_on_literals
example_version = refl

example_short_version : refusals (codes "temu" ∷ codes "-V" ∷ []) ≡ DisplayVersion ∷ []
unfolding clap_on_literals
example_short_version = refl

example_no_version : refusals (codes "temu" ∷ codes "run" ∷ codes "--version" ∷ []) ≡ UnknownArgument ∷ []
unfolding clap_on_literals
example_no_version = refl
