-- The messages that wires have carried, step by step.
use Rattle.std.proofs.Common.{◌≡◌, refl, sym, ap, ◌∙◌, List, [], ◌∷◌, ◌++◌, Bool, true, false, cond}
use Rattle.std.proofs.Common.{append_assoc, append-nil, Option, Some, None}
use Rattle.std.proofs.lemmas.List.Elements.{filter-append, filter_map-append}
use Rattle.std.specs.Prelude.{unwrap_or}
use Rattle.std.specs.List.{filter_map, cons_option}
use Rattle.tword.specs.Stores.{Store, shown, bytes_at}
use Rattle.tplan.specs.declared.plan.End.{End}
use Rattle.tplan.specs.declared.plan.Plan.{Plan}
use Rattle.tplan.specs.declared.event.Note.{Note}
use Rattle.tplan.specs.declared.event.Note.TheVariants.{Msg}
use Rattle.tnet.specs.Rendezvous.{Configuration, Copy, note_of, IsCopy}
use Rattle.tagents.specs.Agents.{own}
use Rattle.tprocesses.specs.Machine.{Agent, Wire, same_agent}
use Rattle.tprocesses.specs.Certified.{ProcessStep, machine_of}
use Rattle.tseen.specs.Known.{KnowsCells}
use Rattle.tseen.specs.AgentSteps.{AgentMakes, HandsNone}
use Rattle.tseen.specs.Carried.{arrived_in, arrived, handed, KnowsBytes, AreKnownAs}
use Rattle.tseen.proofs.After.{State}
use Rattle.tprocesses.proofs.Tidy.{process_machine_is_tidy}

-- cells that are known, as bytes
pub knows_shown : (known cells : Store) → KnowsCells known cells → KnowsBytes known (shown cells)
knows_shown [] [] h = tt
knows_shown (None ∷ rest) (cell ∷ cells) h = (tt, knows_shown rest cells h.1)
knows_shown (Some b ∷ rest) (cell ∷ cells) h =
    (ap (λ z. unwrap_or z 0) h.0, knows_shown rest cells h.1)
knows_shown [] (cell ∷ cells) h = absurd h
knows_shown (k ∷ rest) [] h = absurd h

-- messages behind others
pub known_more : (ks more : List Store) (bs bytes : _) → AreKnownAs ks bs → AreKnownAs more bytes
    → AreKnownAs (ks ++ more) (bs ++ bytes)
known_more [] more [] bytes h g = g
known_more (k ∷ ks) more (b ∷ bs) bytes h g = (h.0, known_more ks more bs bytes h.1 g)
known_more [] more (b ∷ bs) bytes h g = absurd h
known_more (k ∷ ks) more [] bytes h g = absurd h

pub arrived_more : (e : End) (xs ys : List Note) → arrived e (xs ++ ys) ≡ arrived e xs ++ arrived e ys
arrived_more e [] ys = refl
arrived_more e (x ∷ xs) ys =
    ap (λ z. arrived_in e x ++ z) (arrived_more e xs ys)
    ∙ sym (append_assoc (arrived_in e x) (arrived e xs) (arrived e ys))

-- the messages that some steps hand over
abbrev pub messages_of : List ProcessStep → List Store
messages_of steps = filter_map (λ (l : ProcessStep). l.deed.message) steps

pub messages_more : (xs ys : List ProcessStep) → messages_of (xs ++ ys) ≡ messages_of xs ++ messages_of ys
messages_more xs ys = filter_map-append (λ (l : ProcessStep). l.deed.message) xs ys

-- the message of a step, if it hands over one
abbrev pub given : Option Store → List Store
given o = cons_option o []

pub handed_more : (p : Plan) (e : End) (xs ys : List ProcessStep)
    → handed p e (xs ++ ys) ≡ handed p e xs ++ handed p e ys
handed_more p e xs ys =
    ap messages_of (filter-append (λ l. same_agent l.agent (Wire e)) xs ys)
    ∙ messages_more (own (machine_of p) (Wire e) xs) (own (machine_of p) (Wire e) ys)

-- what one step hands over
handed_one : (p : Plan) (e : End) (a : Agent) (s s' : State) (m : AgentMakes p a s s')
    → handed p e (m.label ∷ []) ≡ cond (same_agent a (Wire e)) (given m.label.deed.message) []
handed_one p e a s s' m =
    by (same_agent m.label.agent (Wire e)) (same_agent a (Wire e)) refl (ap (λ z. same_agent z (Wire e)) m.agent)
  where
    by : (b t : Bool) → same_agent m.label.agent (Wire e) ≡ b → same_agent m.label.agent (Wire e) ≡ t
        → messages_of (cond (same_agent m.label.agent (Wire e)) (m.label ∷ []) [])
        ≡ cond t (given m.label.deed.message) []
    by true true e f = rw e refl
    by false false e f = rw e refl
    by true false e f = cc
    by false true e f = cc

-- an agent that is no wire hands over nothing
pub silent : (p : Plan) (e : End) (a : Agent) (s s' : State) (m : AgentMakes p a s s') (steps : List ProcessStep)
    → same_agent a (Wire e) ≡ false → handed p e (steps ++ m.label ∷ []) ≡ handed p e steps
silent p e a s s' m steps other =
    handed_more p e steps (m.label ∷ [])
    ∙ ap (λ z. handed p e steps ++ z) (handed_one p e a s s' m
    ∙ ap (λ b. cond b (given m.label.deed.message) []) other)
    ∙ append-nil (handed p e steps)

-- nor does a step of a wire that hands over no message
pub hands_none : (p : Plan) (e : End) (a : Agent) (s s' : State) (m : AgentMakes p a s s') (steps : List ProcessStep)
    → HandsNone m → handed p e (steps ++ m.label ∷ []) ≡ handed p e steps
hands_none p e a s s' m steps none =
    handed_more p e steps (m.label ∷ [])
    ∙ ap (λ z. handed p e steps ++ z) (handed_one p e a s s' m ∙ by (same_agent a (Wire e)) refl)
    ∙ append-nil (handed p e steps)
  where
    by : (b : Bool) → same_agent a (Wire e) ≡ b → cond b (given m.label.deed.message) [] ≡ []
    by true h = ap given (none e ((process_machine_is_tidy p).told.is_same a (Wire e) h))
    by false h = refl

-- and what it adds
pub hands_one : (p : Plan) (e : End) (a : Agent) (s s' : State) (m : AgentMakes p a s s') (steps : List ProcessStep)
    → handed p e (steps ++ m.label ∷ [])
    ≡ handed p e steps ++ cond (same_agent a (Wire e)) (given m.label.deed.message) []
hands_one p e a s s' m steps =
    handed_more p e steps (m.label ∷ []) ∙ ap (λ z. handed p e steps ++ z) (handed_one p e a s s' m)

-- a message that goes over is told
pub copy_told : (c c' : Configuration) (f e : End) → (k : IsCopy c f e c')
    → note_of c (Copy f e) ≡ Msg f e (bytes_at k.sender.machine.store k.out.buffer k.out.length) ∷ []
copy_told c c' f e k = rw (k.offers.node, k.offers.output) refl
