-- The table of the commands: their names, the words that they take with their ranges and defaults, and what they ask
-- for.
-- Source: own choice.
use Rattle.std.specs.Prelude.{ℕ, ◌≤◌, Bool, true, false, List, [], ◌∷◌, ◌++◌, ◌==◌, ◌&&◌, Option, Some, None}
use Rattle.std.specs.Prelude.{option_map}
use Rattle.std.specs.Prelude.{bytes_eq, codes, if◌then◌else◌, is_some, map, option_and_then}
use Rattle.clap.specs.Words.{Text, Rule, Row, first_of}
use Rattle.tplan.specs.declared.options.Options.{Options}
use Rattle.tword.specs.Limits.{longest_slice, most_workers}
use Rattle.tword.specs.declared.kind.Kind.{Kind}
use Rattle.tword.specs.declared.kind.Kind.TheVariants.{One, Two}
use Rattle.twords.specs.Addresses.{address_of}
use Rattle.twords.specs.Arguments.{around, between, file_rule, flag_at, flag_rule, number_at, number_rule, option_rule}
use Rattle.twords.specs.Arguments.{signed_at, text_at}
use Rattle.twords.specs.NamesFiles.{names_file_of}
use Rattle.twords.specs.Arguments.{text_rule, texts_at, texts_rule, wanted_number_rule, wanted_rule, IsWithin}
use Rattle.twords.specs.declared.table.Show.{Show}
use Rattle.twords.specs.declared.table.Show.TheVariants as show
use Rattle.twords.specs.declared.table.Printing.{Printing}
use Rattle.twords.specs.declared.table.Printing.TheVariants as printing
use Rattle.twords.specs.declared.table.Running.{Running}
use Rattle.twords.specs.declared.table.Exploring.{Exploring}
use Rattle.twords.specs.declared.certifying.Certifying.{Certifying}
use Rattle.twords.specs.declared.histories.Stepping.{Stepping}
use Rattle.twords.specs.declared.names_files.NamesFile.{NamesFile}
use Rattle.twords.specs.declared.histories.Watching.{Watching}
use Rattle.twords.specs.declared.table.Command.{Command}
use Rattle.twords.specs.declared.table.Command.TheVariants as command
use Rattle.twords.specs.declared.table.Which.{Which}
use Rattle.twords.specs.declared.table.Which.TheVariants.{Run, Free, Explore, Certify, Replay, Where, Steps, Watch}
use Rattle.twords.specs.declared.table.Which.TheVariants.{Chart, Check, Dis}

-- ---- the words that are taken

-- `[--show WHAT]`: what is shown of a net
abbrev pub show_rule : Rule
show_rule = text_rule (codes "show") (codes "dump")

-- `[--json]`: each line as JSON
abbrev pub json_rule : Rule
json_rule = flag_rule (codes "json")

-- `[--events N]`: how many events of a log are done, or with a minus how many of its last ones are not
abbrev pub events_rule : Rule
events_rule = number_rule (codes "events") (around 4294967295) (codes "4294967295")

-- `WIRING [--workers N] [--LIMIT N] [--slice N] [--log FILE] [--show WHAT] [--json]`, the arguments of a command that
-- runs a net
abbrev pub running_rules : Text → List Rule
running_rules limit = file_rule (codes "wiring")
    ∷ number_rule (codes "workers") (between 1 most_workers) (codes "1")
    ∷ number_rule limit (between 0 4294967295) (codes "100000")
    ∷ number_rule (codes "slice") (between 1 longest_slice) (codes "64")
    ∷ option_rule (codes "log")
    ∷ show_rule
    ∷ json_rule
    ∷ []

-- `WIRING [--states N] [--steps N] [--log PREFIX] [--show WHAT] [--certify]`
abbrev pub exploring_rules : List Rule
exploring_rules = file_rule (codes "wiring")
    ∷ number_rule (codes "states") (between 0 4294967295) (codes "1000000")
    ∷ number_rule (codes "steps") (between 0 9223372036854775807) (codes "9223372036854775807")
    ∷ option_rule (codes "log")
    ∷ show_rule
    ∷ flag_rule (codes "certify")
    ∷ []

-- `[--names [N=]FILE]..`: files of names, of one node or of each
abbrev pub names_rule : Rule
names_rule = texts_rule (codes "names")

-- `WIRING [--steps N] [--names [N=]FILE]..`
abbrev pub certifying_rules : List Rule
certifying_rules = file_rule (codes "wiring")
    ∷ number_rule (codes "steps") (between 0 9223372036854775807) (codes "9223372036854775807")
    ∷ names_rule
    ∷ []

-- `WIRING LOG [--events N]`
abbrev pub replaying_rules : List Rule
replaying_rules = file_rule (codes "wiring") ∷ file_rule (codes "log") ∷ events_rule ∷ []

-- `--node N`: the number of a node, a source or a sink
abbrev pub node_rule : Rule
node_rule = wanted_number_rule (codes "node") (between 0 255)

-- `WIRING LOG --node N [--from EVENT] [--to EVENT] [--last K] [--names [N=]FILE]..`
abbrev pub stepping_rules : List Rule
stepping_rules = file_rule (codes "wiring")
    ∷ file_rule (codes "log")
    ∷ node_rule
    ∷ number_rule (codes "from") (between 0 4294967295) (codes "0")
    ∷ number_rule (codes "to") (between 0 4294967295) (codes "4294967295")
    ∷ number_rule (codes "last") (between 0 4294967295) (codes "4294967295")
    ∷ names_rule
    ∷ []

-- `WIRING LOG --node N --address A [--length L] [--names [N=]FILE]..`
abbrev pub watching_rules : List Rule
watching_rules = file_rule (codes "wiring")
    ∷ file_rule (codes "log")
    ∷ node_rule
    ∷ wanted_rule (codes "address")
    ∷ number_rule (codes "length") (between 1 65536) (codes "4")
    ∷ names_rule
    ∷ []

-- the arguments of each command
abbrev pub rules_of : Which → List Rule
rules_of Run = running_rules (codes "rounds")
rules_of Free = running_rules (codes "turns")
rules_of Explore = exploring_rules
rules_of Certify = certifying_rules
rules_of Replay = replaying_rules ++ show_rule ∷ json_rule ∷ []
rules_of Where = replaying_rules ++ names_rule ∷ []
rules_of Steps = stepping_rules
rules_of Watch = watching_rules
rules_of Chart = replaying_rules
rules_of Check = file_rule (codes "wiring") ∷ []
rules_of Dis = file_rule (codes "image")
    ∷ number_rule (codes "kind") (between 1 2) (codes "1")
    ∷ option_rule (codes "names")
    ∷ []

-- all commands, in the order of help
abbrev pub commands : List Which
commands = Run ∷ Free ∷ Explore ∷ Certify ∷ Replay ∷ Where ∷ Steps ∷ Watch ∷ Chart ∷ Check ∷ Dis ∷ []

-- the name of a command
abbrev pub name_of : Which → Text
name_of Run = codes "run"
name_of Free = codes "free"
name_of Explore = codes "explore"
name_of Certify = codes "certify"
name_of Replay = codes "replay"
name_of Where = codes "where"
name_of Steps = codes "steps"
name_of Watch = codes "watch"
name_of Chart = codes "chart"
name_of Check = codes "check"
name_of Dis = codes "dis"

-- ---- what they ask for

-- the options of a run, whose limit is the argument of this id
abbrev pub options_in : Text → List Row → Options
options_in id rows =
    record {
      workers = number_at (codes "workers") rows;
      rounds = number_at id rows;
      slice =
          number_at (codes "slice") rows;
    }

-- what a word of `--show` stands for, if for anything
abbrev pub show_of : Text → Option Show
show_of word =
    if bytes_eq word (codes "dump") then Some show.Dump
    else if bytes_eq word (codes "where") then Some show.Where
    else if bytes_eq word (codes "none") then Some show.Nothing
    else None

-- what is to be shown, where the word of `--show` stands for something
abbrev pub show_in : List Row → Option Show
show_in rows = show_of (text_at (codes "show") rows)

-- what is printed where this is to be shown, in lines or as JSON; where a net stands is told only in lines
abbrev pub printing_of : (as_json : Bool) → Show → Option Printing
printing_of false what = Some (printing.Lines what)
printing_of true show.Dump = Some (printing.Json true)
printing_of true show.Where = None
printing_of true show.Nothing = Some (printing.Json false)

-- what is to be printed of a run, where the words of `--show` and `--json` stand for something
abbrev pub printing_in : List Row → Option Printing
printing_in rows = option_and_then (λ what. printing_of (flag_at (codes "json") rows) what) (show_in rows)

-- the kind of a node: 1 or 2
abbrev pub kind_in : List Row → Kind
kind_in rows = if number_at (codes "kind") rows == 2 then Two else One

-- the address that is to be watched, where the word of `--address` is one
abbrev pub address_in : List Row → Option ℕ
address_in rows = address_of (text_at (codes "address") rows)

-- the files of names that the words of `--names` stand for, in their order
abbrev pub names_in : List Row → List NamesFile
names_in rows = map names_file_of (texts_at (codes "names") rows)

-- the run of a net that the arguments of a command ask for, whose limit is the argument of this id
abbrev pub running_in : Text → List Row → Printing → Running
running_in limit rows what =
    record {
      wiring = text_at (codes "wiring") rows;
      options = options_in limit rows;
      log = first_of (codes "log") rows;
      printing = what;
    }

-- the exploration that the arguments of `explore` ask for
abbrev pub exploring_in : List Row → Show → Exploring
exploring_in rows what =
    record {
      wiring = text_at (codes "wiring") rows;
      states = number_at (codes "states") rows;
      steps = number_at (codes "steps") rows;
      log = first_of (codes "log") rows;
      show = what;
      certify = flag_at (codes "certify") rows;
    }

-- a search is needed to write logs, where they are asked for, and to show this
abbrev pub takes_search : (is_logged : Bool) → Show → Bool
takes_search false show.Dump = false
takes_search false show.Where = true
takes_search false show.Nothing = false
takes_search true what = true

-- the exploration, unless a certificate is to come first and what is asked for takes a search
abbrev pub exploring_of : Exploring → Option Exploring
exploring_of asked =
    if asked.certify && takes_search (is_some asked.log) asked.show then None else Some asked

-- the certificate that the arguments of `certify` ask for
abbrev pub certifying_in : List Row → Certifying
certifying_in rows =
    record {
      wiring = text_at (codes "wiring") rows;
      steps = number_at (codes "steps") rows;
      names = names_in rows;
    }

-- the history of a node that the arguments of `steps` ask for
abbrev pub stepping_in : List Row → Stepping
stepping_in rows =
    record {
      wiring = text_at (codes "wiring") rows;
      log = text_at (codes "log") rows;
      node = number_at (codes "node") rows;
      from = number_at (codes "from") rows;
      to = number_at (codes "to") rows;
      last = number_at (codes "last") rows;
      names = names_in rows;
    }

-- the history of some bytes that the arguments of `watch` ask for, from this address on
abbrev pub watching_in : List Row → ℕ → Watching
watching_in rows first =
    record {
      wiring = text_at (codes "wiring") rows;
      log = text_at (codes "log") rows;
      node = number_at (codes "node") rows;
      address = first;
      length = number_at (codes "length") rows;
      names = names_in rows;
    }

-- what the arguments of a command ask for, where they ask for anything
abbrev pub asked_in : Which → List Row → Option Command
asked_in Run rows = option_map (λ what. command.Run (running_in (codes "rounds") rows what)) (printing_in rows)
asked_in Free rows = option_map (λ what. command.Free (running_in (codes "turns") rows what)) (printing_in rows)
asked_in Explore rows =
    option_map command.Explore (option_and_then (λ what. exploring_of (exploring_in rows what)) (show_in rows))
asked_in Certify rows = Some (command.Certify (certifying_in rows))
asked_in Replay rows =
    option_map
    (command.Replay (text_at (codes "wiring") rows) (text_at (codes "log") rows) (signed_at (codes "events") rows))
    (printing_in rows)
asked_in Where rows =
    Some
    (command.Where (text_at (codes "wiring") rows) (text_at (codes "log") rows) (signed_at (codes "events") rows)
    (names_in rows))
asked_in Steps rows = Some (command.Steps (stepping_in rows))
asked_in Watch rows = option_map (λ address. command.Watch (watching_in rows address)) (address_in rows)
asked_in Chart rows =
    Some (command.Chart (text_at (codes "wiring") rows) (text_at (codes "log") rows) (signed_at (codes "events") rows))
asked_in Check rows = Some (command.Check (text_at (codes "wiring") rows))
asked_in Dis rows = Some (command.Dis (text_at (codes "image") rows) (kind_in rows) (first_of (codes "names") rows))

-- the options of a run lie in their ranges
pub record AreOptions (o : Options) : Type 0 where
  pub workers : (1 ≤ o.workers) × (o.workers ≤ most_workers)
  pub rounds : o.rounds ≤ 4294967295
  pub slice : (1 ≤ o.slice) × (o.slice ≤ longest_slice)

-- the numbers of a command lie in their ranges
abbrev pub IsInRange : Command → Type 0
IsInRange (command.Run asked) = AreOptions asked.options
IsInRange (command.Free asked) = AreOptions asked.options
IsInRange (command.Explore asked) = (asked.states ≤ 4294967295) × (asked.steps ≤ 9223372036854775807)
IsInRange (command.Certify asked) = asked.steps ≤ 9223372036854775807
IsInRange (command.Replay wiring log events what) = IsWithin 4294967295 events
IsInRange (command.Where wiring log events names) = IsWithin 4294967295 events
IsInRange (command.Steps asked) =
    (asked.node ≤ 255) × (asked.from ≤ 4294967295) × (asked.to ≤ 4294967295) × (asked.last ≤ 4294967295)
IsInRange (command.Watch asked) = (asked.node ≤ 255) × (1 ≤ asked.length) × (asked.length ≤ 65536)
IsInRange (command.Chart wiring log events) = IsWithin 4294967295 events
IsInRange c = Unit {0}
