-- What is printed of a run of the process machine.
-- Source: own choice, a format of this program.
use Rattle.std.specs.Prelude.{ℕ, List, [], ◌++◌, Option, Some, None, Result, Ok, Err, codes, decimal, slice_get}
use Rattle.std.specs.Prelude.{option_and_then, position}
use Rattle.tcode.specs.declared.instruction.Instruction.{Instruction}
use Rattle.tcode.specs.Texts.{instruction_text}
use Rattle.tplan.specs.declared.plan.Plan.{Plan}
use Rattle.tfiles.specs.Logs.{line}
use Rattle.tnames.specs.declared.nodes.NodeNames.{NodeNames}
use Rattle.tnames.specs.Nodes.{text_of_node}
use Rattle.twhere.specs.Standing.{word_text}
use Rattle.tcertify.specs.declared.node.Node.{Node}
use Rattle.tcertify.specs.declared.stop.Stop.{Stop}
use Rattle.tverdict.specs.declared.agent.Agent.{Agent}
use Rattle.tverdict.specs.declared.machine.Machine.{Machine}
use Rattle.tverdict.specs.Agents.{IsThere, agent_of}
use Rattle.tverdict.specs.declared.agent.Agent.TheVariants as agent
use Rattle.tverdict.specs.Machines.{IsSound, machine_at}
use Rattle.tfindings.specs.declared.finding.Code.{Code}
use Rattle.tfindings.specs.declared.finding.Made.{Made}
use Rattle.tfindings.specs.declared.finding.Touch.{Touch}
use Rattle.tfindings.specs.declared.finding.Finding.{Finding}
use Rattle.tfindings.specs.declared.finding.Finding.TheVariants as finding
use Rattle.tfindings.specs.Agents.{AreNumbered, agent_text}
use Rattle.tfindings.specs.Ends.{end_text}
use Rattle.tfindings.specs.Places.{access_text, has_part}
use Rattle.tfindings.specs.Refusals.{stop_name}

-- what is fetched: an instruction, or why there is none
abbrev pub fetched_text : Result Instruction Stop → List ℕ
fetched_text (Ok i) = instruction_text i
fetched_text (Err why) = stop_name why

-- the address of an instruction, and what is there
abbrev pub code_text : Option Code → List ℕ
code_text (Some c) = codes " " ++ (word_text c.address ++ (codes " " ++ fetched_text c.fetched))
code_text None = []

-- a step: its agent, its number among the steps of that agent, and its code if it is that of a process
abbrev pub made_text : Machine → Made → List ℕ
made_text m made =
    agent_text (agent_of m.nodes.items made.agent)
    ++ (codes " step " ++ (decimal made.number ++ code_text made.code))

-- an access, and its step
abbrev pub touch_text : Machine → (place : ℕ) → Touch → List ℕ
touch_text m place touch =
    line (access_text m.nodes.items m.first_script place touch.mode ++ (codes ": " ++ made_text m touch.made))

-- the last line, which tells how many steps were done
abbrev pub last_text : List ℕ → ℕ → List ℕ
last_text how steps = line (codes "end " ++ (how ++ (codes " " ++ decimal steps)))

-- why there is no certificate
abbrev pub refusal_text : List ℕ → List ℕ → ℕ → List ℕ
refusal_text why at steps = line (codes "refused " ++ (why ++ at)) ++ last_text (codes "refused") steps

-- a node, by its number
abbrev pub node_text : ℕ → List ℕ
node_text n = codes " node " ++ decimal n

-- the last line, where a plan is certified
abbrev pub certified_line : Plan → Machine → List ℕ
certified_line plan m = last_text (codes "certified") m.done

-- a plan is certified, and its end
abbrev pub certified_text : Plan → Machine → List ℕ
certified_text plan m =
    line (codes "certified") ++ (end_text plan (machine_at plan m) ++ certified_line plan m)

-- a step that stops
abbrev pub stopped_text : Machine → Made → Stop → List ℕ
stopped_text m made why = line (codes "refused " ++ (stop_name why ++ (codes " " ++ made_text m made)))

-- the lines of the steps that are told
abbrev pub body_text : Machine → Finding → List ℕ
body_text m (finding.Race place earlier last) = touch_text m place earlier ++ touch_text m place last
body_text m (finding.Stopped made why) = stopped_text m made why
body_text m _ = []

-- the number of the node that has a place; 0, where none has it
abbrev pub node_of_place : Machine → (place : ℕ) → ℕ
node_of_place m place =
    number_of (option_and_then (λ k. slice_get m.nodes.items k) (position (has_part place) m.nodes.items))
  where
    number_of : Option Node → ℕ
    number_of (Some n) = n.words.number
    number_of None = 0

-- the number of the node of an agent: of a wire that of its end that receives
abbrev pub node_of : Agent → ℕ
node_of (agent.Process n k) = n
node_of (agent.Channel n k) = n
node_of (agent.Wire e) = e.node
node_of (agent.Successor n k) = n

-- what was found of a plan by a run of its process machine, with the names of addresses
abbrev pub finding_text : List NodeNames → Plan → Machine → Finding → List ℕ
finding_text names plan m finding.Certified = certified_text plan m
finding_text names plan m (finding.Race place earlier last) =
    line (codes "race")
    ++ (text_of_node names (node_of_place m place) (body_text m (finding.Race place earlier last))
    ++ last_text (codes "race") m.done)
finding_text names plan m (finding.Stopped made why) =
    text_of_node names (node_of made.agent) (body_text m (finding.Stopped made why))
    ++ last_text (codes "refused") m.done
finding_text names plan m (finding.TooManyProcesses n) = refusal_text (codes "TooManyProcesses") (node_text n) m.done
finding_text names plan m (finding.FlagsChanged n) = refusal_text (codes "FlagsChanged") (node_text n) m.done
finding_text names plan m finding.Cut = refusal_text (codes "Steps") [] m.done

-- what the agents of the steps that are told are named by is there
abbrev pub AreThere : Machine → Finding → Type 0
AreThere m (finding.Race place earlier last) =
    IsThere m.nodes.items earlier.made.agent × IsThere m.nodes.items last.made.agent
AreThere m (finding.Stopped made why) = IsThere m.nodes.items made.agent
AreThere m f = Unit {0}

-- so they are, and the nodes have the numbers of their places
pub record CanBeTold (m : Machine) (f : Finding) : Type 0 where
  pub there : AreThere m f
  pub numbered : AreNumbered m.nodes.items

-- at the end of a certified run the machine's parts fit together
abbrev pub CanBePrinted : Plan → Machine → Finding → Type 0
CanBePrinted plan m finding.Certified = IsSound plan m
CanBePrinted plan m f = Unit {0}
