-- Rows that the definitions compute: alternatives over links.
use Rattle.std.specs.Prelude.{ℕ, ◌≡◌, ◌+◌, ◌++◌, Bool, true, false, List, [], ◌∷◌, Option, Some, option_map, refl}
use Rattle.tword.specs.declared.kind.Kind.TheVariants.{One}
use Rattle.tword.specs.declared.breaks.Break.TheVariants.{LinkBusy, WrongEnd}
use Rattle.tproc.specs.Steps.{computes}
use Rattle.tproc.specs.declared.channels.Side.TheVariants.{Input}
use Rattle.tplan.specs.declared.plan.Plan.{Plan}
use Rattle.tplan.specs.Wires.{end_at}
use Rattle.tplan.specs.Examples.{node_plan, sender}
use Rattle.tprocesses.specs.Places.{Place, Name, Standing, Ports, LinkHalf, Messages}
use Rattle.tprocesses.specs.Values.{Value, Empty, Enabled, Awaited, Fired, IsLink, ArePorts, AreMessages, Stand}
use Rattle.tprocesses.specs.Values.{Listens, stand_in}
use Rattle.tprocesses.specs.Parts.{Breaks, SeveralReady, WordInUse}
use Rattle.tprocesses.specs.Machine.{Agent, Process, Channel, Wire}
use Rattle.tprocesses.specs.Examples.{after, word_then, reason_then, has_step, one_node, segment, started, image, times}
use Rattle.tprocesses.specs.Examples.{label_after, do_clash, does_lead}

-- what is pending at the input of a link of node 0
abbrev input_then : Option (Place → Value) → (link : ℕ) → Option Value
input_then s link = option_map (λ state. state (LinkHalf (end_at 0 link) Input)) s

-- after `alt` a process does this; its w(2) has the address of the input of link 2
abbrev about_link : List ℕ → Plan
about_link code =
    one_node (segment 0x8000_0080 (0x24 ∷ 0xf3 ∷ code) ∷ segment 0x8000_0208 (0x18 ∷ 0 ∷ 0 ∷ 0x80 ∷ []) ∷ [])
    (started 0x8000_0201 0x8000_0080 ∷ [])

-- `ldl 2; ldc 1; enbc`
abbrev enabling : Plan
enabling = about_link (0x72 ∷ 0x41 ∷ 0x24 ∷ 0xf8 ∷ [])

enables-link : input_then (after enabling (times 5 (image 0 0))) 2 ≡ Some (IsLink (Enabled (image 0 0)))
unfolding computes
enables-link = refl

enables-port : option_map (λ s. s (Ports (image 0 0))) (after enabling (times 5 (image 0 0)))
    ≡ Some (ArePorts (0x8000_0018 ∷ []))
unfolding computes
enables-port = refl

-- `mint; ldc 1; enbc`: an output of a link cannot be enabled
abbrev enabling_output : Plan
enabling_output = about_link (0x24 ∷ 0xf2 ∷ 0x41 ∷ 0x24 ∷ 0xf8 ∷ [])

enables-wrong_end : reason_then enabling_output (after enabling_output (times 4 (image 0 0))) (Process (image 0 0))
    ≡ Some (Breaks WrongEnd)
unfolding computes
enables-wrong_end = refl

-- `enbs` with this guard, then `ldl 2; ldc 1; ldc 0; disc`: a channel is disabled only in an alternative that need not
-- wait, and only one that was enabled
abbrev disabling : (skips : ℕ) → Plan
disabling skips =
    about_link ((0x40 + skips) ∷ 0x24 ∷ 0xf9 ∷ 0x72 ∷ 0x41 ∷ 0x40 ∷ 0x22 ∷ 0xff ∷ [])

disables-not_enabled : reason_then (disabling 1) (after (disabling 1) (times 7 (image 0 0))) (Process (image 0 0))
    ≡ Some (Breaks LinkBusy)
unfolding computes
disables-not_enabled = refl

disables-too_early : reason_then (disabling 0) (after (disabling 0) (times 7 (image 0 0))) (Process (image 0 0))
    ≡ Some WordInUse
unfolding computes
disables-too_early = refl

-- a process enables the input of link 2, and another one does this; the w(2) of both has the address of that input
abbrev beside_enabling : List ℕ → Plan
beside_enabling code =
    one_node (
    segment 0x8000_0080 (0x24 ∷ 0xf3 ∷ 0x72 ∷ 0x41 ∷ 0x24 ∷ 0xf8 ∷ [])
    ∷ segment 0x8000_00a0 code
    ∷ segment 0x8000_0208 (0x18 ∷ 0 ∷ 0 ∷ 0x80 ∷ [])
    ∷ segment 0x8000_0288 (0x18 ∷ 0 ∷ 0 ∷ 0x80 ∷ [])
    ∷ [])
    (started 0x8000_0201 0x8000_0080 ∷ started 0x8000_0281 0x8000_00a0 ∷ [])

-- `alt; ldl 2; ldc 1; enbc`
abbrev both_enable : Plan
both_enable = beside_enabling (0x24 ∷ 0xf3 ∷ 0x72 ∷ 0x41 ∷ 0x24 ∷ 0xf8 ∷ [])

busy-enabled : reason_then both_enable (after both_enable (times 5 (image 0 0) ++ times 4 (image 0 1)))
    (Process (image 0 1)) ≡ Some (Breaks LinkBusy)
unfolding computes
busy-enabled = refl

-- `ldlp 3; ldl 2; ldc 4; in`
abbrev other_inputs : Plan
other_inputs = beside_enabling (0x13 ∷ 0x72 ∷ 0x44 ∷ 0xf7 ∷ [])

busy-inputs : reason_then other_inputs (after other_inputs (times 5 (image 0 0) ++ times 4 (image 0 1)))
    (Process (image 0 1)) ≡ Some (Breaks LinkBusy)
unfolding computes
busy-inputs = refl

-- P of node 0 chooses between its links 2 and 3, with a branch for each: the first one stores 7 in w(2), the second one
-- inputs a word into w(1). Node 1 may output four bytes to link 2, and node 2 to link 3
abbrev attending : Plan
attending =
    record {
      timeslice = 1024;
      nodes = record {
        memory = 0x310;
        kind = One;
        image = record {
          segments = segment 0x8000_0080 (
              0x24 ∷ 0xf3 ∷ 0x74 ∷ 0x41 ∷ 0x24 ∷ 0xf8 ∷ 0x75 ∷ 0x41 ∷ 0x24 ∷ 0xf8 ∷ 0x24 ∷ 0xf4 ∷ 0x74 ∷ 0x41 ∷ 0x40 ∷
              0x22 ∷ 0xff ∷ 0x75 ∷ 0x41 ∷ 0x44 ∷ 0x22 ∷ 0xff ∷ 0x24 ∷ 0xf5 ∷ 0x47 ∷ 0xd2 ∷ 0x21 ∷ 0xf5 ∷ 0x11 ∷ 0x75 ∷
              0x44 ∷ 0xf7 ∷ 0x21 ∷ 0xf5 ∷ [])
              ∷ segment 0x8000_0210 (0x18 ∷ 0 ∷ 0 ∷ 0x80 ∷ 0x1c ∷ 0 ∷ 0 ∷ 0x80 ∷ [])
              ∷ [];
          processes = started 0x8000_0201 0x8000_0080 ∷ [];
        };
      } ∷ sender 4 ∷ sender 4 ∷ [];
      wires = record { a = end_at 1 1; b = end_at 0 2 } ∷ record { a = end_at 2 1; b = end_at 0 3 } ∷ [];
      sources = [];
      sinks = [];
    }

-- P waits at `altwt`; a node outputs; the wires to links 2 and 3
abbrev waits : List Agent
waits = times 9 (image 0 0)

abbrev outputs : (node : ℕ) → List Agent
outputs n = times 6 (image n 0)

abbrev first_wire : Agent
first_wire = Wire (end_at 0 2)

abbrev second_wire : Agent
second_wire = Wire (end_at 0 3)

-- node 2 comes after P waits, or before
abbrev fired : List Agent
fired = waits ++ outputs 2 ++ second_wire ∷ []

abbrev fired_too : List Agent
fired_too = outputs 2 ++ waits ++ second_wire ∷ []

-- P disables link 2 and listens to it, disables link 3, jumps to the second branch and inputs; then both stop
abbrev takes_branch : List Agent
takes_branch = times 15 (image 0 0) ++ second_wire ∷ times 2 (image 0 0) ++ times 2 (image 2 0)

-- the wire leaves the message where it is
fires-half : input_then (after attending fired) 3 ≡ Some (IsLink (Fired (image 0 0)))
unfolding computes sender node_plan
fires-half = refl

fires-awaited : input_then (after attending fired) 2 ≡ Some (IsLink (Awaited (image 0 0)))
unfolding computes sender node_plan
fires-awaited = refl

fires-chooser_first : word_then (after attending (fired ++ takes_branch)) 0 0x8000_0204 ≡ Some 0x0403_0201
unfolding computes sender node_plan
fires-chooser_first = refl

fires-sender_first : word_then (after attending (fired_too ++ takes_branch)) 0 0x8000_0204 ≡ Some 0x0403_0201
unfolding computes sender node_plan
fires-sender_first = refl

fires-offset : word_then (after attending (fired ++ takes_branch)) 0 0x8000_0200 ≡ Some 4
unfolding computes sender node_plan
fires-offset = refl

fires-empty : input_then (after attending (fired ++ times 10 (image 0 0))) 3 ≡ Some (IsLink Empty)
unfolding computes sender node_plan
fires-empty = refl

-- no wire has a step before a message is offered and P waits for it
fires-no_sender : has_step attending (after attending waits) second_wire ≡ Some false
unfolding computes sender node_plan
fires-no_sender = refl

fires-not_awaited : has_step attending (after attending (times 8 (image 0 0) ++ outputs 2)) second_wire ≡ Some false
unfolding computes sender node_plan
fires-not_awaited = refl

fires-once : has_step attending (after attending fired) second_wire ≡ Some false
unfolding computes sender node_plan
fires-once = refl

-- P listens to link 2, and gives it up where node 1 is silent
abbrev disabled : List Agent
disabled = fired ++ times 5 (image 0 0)

abbrev is_listening : Option (Place → Value) → Name → Option Bool
is_listening s x = option_map (λ state. by (stand_in (state (Standing x)))) s
  where
    by : Stand → Bool
    by (Listens channel c) = true
    by _ = false

listens-disabled : is_listening (after attending disabled) (image 0 0) ≡ Some true
unfolding computes sender node_plan
listens-disabled = refl

listens-still_awaited : input_then (after attending disabled) 2 ≡ Some (IsLink (Awaited (image 0 0)))
unfolding computes sender node_plan
listens-still_awaited = refl

listens-silent : input_then (after attending (disabled ++ times 1 (image 0 0))) 2 ≡ Some (IsLink Empty)
unfolding computes sender node_plan
listens-silent = refl

-- where node 1 outputs too, the timing of the links decides: before P has disabled link 2, or before P has listened
several-listens : reason_then attending (after attending (disabled ++ outputs 1)) (Process (image 0 0))
    ≡ Some SeveralReady
unfolding computes sender node_plan
several-listens = refl

several-disables : reason_then attending (after attending (fired ++ outputs 1 ++ times 5 (image 0 0)))
    (Process (image 0 0)) ≡ Some SeveralReady
unfolding computes sender node_plan
several-disables = refl

several-fires : reason_then attending (after attending (fired ++ outputs 1)) first_wire ≡ Some SeveralReady
unfolding computes sender node_plan
several-fires = refl

-- whoever comes last leads to the wire, and this to what P does next
leads-sender : does_lead attending (label_after attending (waits ++ times 5 (image 2 0)) (Process (image 2 0)))
    (label_after attending (waits ++ outputs 2) second_wire) ≡ Some true
unfolding computes sender node_plan
leads-sender = refl

leads-chooser : does_lead attending (label_after attending (outputs 2 ++ times 8 (image 0 0)) (Process (image 0 0)))
    (label_after attending (outputs 2 ++ waits) second_wire) ≡ Some true
unfolding computes sender node_plan
leads-chooser = refl

leads-fired : does_lead attending (label_after attending (waits ++ outputs 2) second_wire)
    (label_after attending fired (Process (image 0 0))) ≡ Some true
unfolding computes sender node_plan
leads-fired = refl

-- a node that outputs later has a race with P, which has listened to it
clash-listens : do_clash attending (label_after attending disabled (Process (image 0 0)))
    (label_after attending (disabled ++ times 5 (image 1 0)) (Process (image 1 0))) ≡ Some true
unfolding computes sender node_plan
clash-listens = refl

-- and none with `disc` before, or with `enbc`
clash-disables : do_clash attending (label_after attending (fired ++ times 4 (image 0 0)) (Process (image 0 0)))
    (label_after attending (fired ++ times 5 (image 1 0)) (Process (image 1 0))) ≡ Some false
unfolding computes sender node_plan
clash-disables = refl

clash-enables : do_clash attending (label_after attending (times 4 (image 0 0)) (Process (image 0 0)))
    (label_after attending (times 5 (image 1 0)) (Process (image 1 0))) ≡ Some false
unfolding computes sender node_plan
clash-enables = refl

-- a source at link 3 in the place of node 2
abbrev fed : Plan
fed =
    record attending {
      wires = record { a = end_at 1 1; b = end_at 0 2 } ∷ [];
      sources = record { «end» = end_at 0 3; messages = (1 ∷ 2 ∷ 3 ∷ 4 ∷ []) ∷ [] } ∷ [];
    }

fed-fires : input_then (after fed (waits ++ second_wire ∷ [])) 3 ≡ Some (IsLink (Fired (image 0 0)))
unfolding computes sender node_plan
fed-fires = refl

fed-left : option_map (λ s. s (Messages (end_at 3 0))) (after fed (waits ++ second_wire ∷ []))
    ≡ Some (AreMessages ((1 ∷ 2 ∷ 3 ∷ 4 ∷ []) ∷ []))
unfolding computes sender node_plan
fed-left = refl

fed-received : word_then (after fed (waits ++ second_wire ∷ times 15 (image 0 0) ++ second_wire ∷ [])) 0 0x8000_0204
    ≡ Some 0x0403_0201
unfolding computes sender node_plan
fed-received = refl

-- P chooses between the channel at #80000210 and link 3, with the branches of above; its node has R, which outputs 8 on
-- the channel, and node 1 may output four bytes to the link
abbrev mixed : Plan
mixed =
    record attending {
      nodes = record {
        memory = 0x310;
        kind = One;
        image = record {
          segments = segment 0x8000_0080 (
              0x24 ∷ 0xf3 ∷ 0x14 ∷ 0x41 ∷ 0x24 ∷ 0xf8 ∷ 0x75 ∷ 0x41 ∷ 0x24 ∷ 0xf8 ∷ 0x24 ∷ 0xf4 ∷ 0x14 ∷ 0x41 ∷ 0x40 ∷
              0x22 ∷ 0xff ∷ 0x75 ∷ 0x41 ∷ 0x44 ∷ 0x22 ∷ 0xff ∷ 0x24 ∷ 0xf5 ∷ 0x47 ∷ 0xd2 ∷ 0x21 ∷ 0xf5 ∷ 0x11 ∷ 0x75 ∷
              0x44 ∷ 0xf7 ∷ 0x21 ∷ 0xf5 ∷ [])
              ∷ segment 0x8000_00e0 (0x62 ∷ 0x14 ∷ 0x48 ∷ 0xff ∷ 0x21 ∷ 0xf5 ∷ [])
              ∷ segment 0x8000_0210 (0 ∷ 0 ∷ 0 ∷ 0x80 ∷ 0x1c ∷ 0 ∷ 0 ∷ 0x80 ∷ [])
              ∷ [];
          processes = started 0x8000_0201 0x8000_0080 ∷ started 0x8000_02c1 0x8000_00e0 ∷ [];
        };
      } ∷ sender 4 ∷ [];
      wires = record { a = end_at 1 1; b = end_at 0 3 } ∷ [];
    }

abbrev channel_comes : List Agent
channel_comes = waits ++ times 4 (image 0 1)

abbrev the_channel : Agent
the_channel = Channel 0 0x8000_0210

-- where one of them has a sender, it makes P go on
mixed-channel : word_then (after mixed (channel_comes ++ the_channel ∷ times 14 (image 0 0))) 0 0x8000_0208 ≡ Some 7
unfolding computes sender node_plan
mixed-channel = refl

mixed-link : word_then (after mixed (waits ++ outputs 1 ++ second_wire ∷ times 14 (image 0 0) ++ second_wire ∷ []))
    0 0x8000_0204 ≡ Some 0x0403_0201
unfolding computes sender node_plan
mixed-link = refl

-- where both have one, no order of steps goes on
mixed-channel_first : reason_then mixed (after mixed (channel_comes ++ outputs 1 ++ the_channel ∷ [])) second_wire
    ≡ Some SeveralReady
unfolding computes sender node_plan
mixed-channel_first = refl

mixed-link_first : reason_then mixed (after mixed (channel_comes ++ outputs 1 ++ second_wire ∷ [])) the_channel
    ≡ Some SeveralReady
unfolding computes sender node_plan
mixed-link_first = refl
