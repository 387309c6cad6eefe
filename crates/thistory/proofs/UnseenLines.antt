-- The line of an event does not depend on what the buffers of pending inputs hold.
use Rattle.std.proofs.Common.{◌≡◌, ℕ, refl, sym, ap, ap₂, ◌∙◌, List, [], ◌++◌, Option, Some, None, Result}
use Rattle.std.specs.Prelude.{map, option_map, if◌then◌else◌}
use Rattle.std.specs.List.{range_with_len}
use Rattle.tword.specs.Words.{plus}
use Rattle.tword.specs.Stores.{byte_at}
use Rattle.tproc.specs.Machine.{Machine}
use Rattle.tproc.specs.Hidden.{hidden}
use Rattle.tlink.specs.declared.event.Emitted.{Emitted}
use Rattle.tlink.specs.declared.event.StepFault.{StepFault}
use Rattle.tplan.specs.declared.plan.End.{End}
use Rattle.tnet.specs.Net.{NetState}
use Rattle.tplan.specs.Wires.{far_ends}
use Rattle.twhere.specs.Unseen.{hidden_net}
use Rattle.thistory.specs.declared.deed.Deed.{Deed}
use Rattle.thistory.specs.declared.deed.Deed.TheVariants.{Instruction, Dispatch, Send, Data, Take, Ack}
use Rattle.thistory.specs.declared.deed.Done.{Done}
use Rattle.thistory.specs.declared.watch.Place.{Place}
use Rattle.thistory.specs.Deeds.{processor_in}
use Rattle.tfiles.specs.Logs.{line}
use Rattle.thistory.specs.Lines.{event_line, how_text, number_text, outcome_text, who_text}
use Rattle.thistory.specs.Steps.{left_text, step_line, step_text, was_done}
use Rattle.thistory.specs.Watch.{change_text, changed_text, has_changed, seen_byte, seen_bytes}
use Rattle.thistory.proofs.UnseenDeeds.{processor_same}

-- who did it
who_same : (far : ℕ → Option End) (d : Deed) (m : Option Machine)
    → who_text far d (option_map hidden m) ≡ who_text far d m
who_same far (Instruction process iptr fetched) m = refl
who_same far Dispatch None = refl
who_same far Dispatch (Some m) = refl
who_same far (Send l) m = refl
who_same far (Data l a) m = refl
who_same far (Take l a) m = refl
who_same far (Ack l) m = refl

-- how it was done
how_same : (d : Deed) (m : Option Machine) → how_text d (option_map hidden m) ≡ how_text d m
how_same (Instruction process iptr fetched) None = refl
how_same (Instruction process iptr fetched) (Some m) = refl
how_same Dispatch m = refl
how_same (Send l) m = refl
how_same (Data l a) m = refl
how_same (Take l a) m = refl
how_same (Ack l) m = refl

-- what it left
left_same : (d : Deed) (answer : Result Emitted StepFault) (m : Option Machine)
    → left_text d answer (option_map hidden m) ≡ left_text d answer m
left_same (Instruction process iptr fetched) answer None = refl
left_same (Instruction process iptr fetched) answer (Some m) = refl
left_same Dispatch answer None = refl
left_same Dispatch answer (Some m) = refl
left_same (Send l) answer m = refl
left_same (Data l a) answer m = refl
left_same (Take l a) answer m = refl
left_same (Ack l) answer m = refl

-- a line
event_same : (middle : List ℕ) (k : ℕ) (far : ℕ → Option End) (d : Done) (m : Option Machine)
    → event_line middle k far d (option_map hidden m) ≡ event_line middle k far d m
event_same middle k far d m =
    ap₂ (λ (who how : List ℕ). (number_text k ++ who) ++ (middle ++ (how ++ line (outcome_text d.answer))))
    (who_same far d.deed m) (how_same d.deed m)

step_same : (k : ℕ) (far : ℕ → Option End) (d : Done) (m : Option Machine)
    → step_line k far d (option_map hidden m) ≡ step_line k far d m
step_same k far d m =
    event_same (left_text d.deed d.answer (option_map hidden m)) k far d m
    ∙ ap (λ (middle : List ℕ). event_line middle k far d m) (left_same d.deed d.answer m)

-- the text of an event that was done
pub step_text-hidden : (k : ℕ) (d : Done) (net : NetState) → step_text k d (hidden_net net) ≡ step_text k d net
step_text-hidden k d net =
    ap (λ (t : List ℕ). if was_done d.answer then t else [])
    (ap (λ (m : Option Machine). step_line k (far_ends net.wires d.event.node) d m) (processor_same net d.event.node)
    ∙ step_same k (far_ends net.wires d.event.node) d (processor_in net d.event.node))

-- and of one that changed some bytes
pub changed_text-hidden : (k : ℕ) (d : Done) (net : NetState) (before after : List (Option ℕ))
    → changed_text k d (hidden_net net) before after ≡ changed_text k d net before after
changed_text-hidden k d net before after =
    ap (λ (t : List ℕ). if has_changed before after then t else [])
    (ap (λ (m : Option Machine). event_line (change_text before after) k (far_ends net.wires d.event.node) d m)
    (processor_same net d.event.node)
    ∙ event_same (change_text before after) k (far_ends net.wires d.event.node) d (processor_in net d.event.node))

-- the bytes of a place, where they are hidden already
abbrev bare_byte : Option Machine → ℕ → Option ℕ
bare_byte (Some m) a = byte_at m.store a
bare_byte None a = None

bytes_same : (m : Option Machine) (p : Place)
    → map (λ i. seen_byte m (plus p.address i)) (range_with_len 0 p.length)
    ≡ map (λ i. bare_byte (option_map hidden m) (plus p.address i)) (range_with_len 0 p.length)
bytes_same None p = refl
bytes_same (Some m) p = refl

bytes_hidden : (net : NetState) (p : Place) → seen_bytes net p
    ≡ map (λ i. bare_byte (processor_in (hidden_net net) p.node) (plus p.address i)) (range_with_len 0 p.length)
bytes_hidden net p =
    bytes_same (processor_in net p.node) p
    ∙ ap (λ (m : Option Machine). map (λ i. bare_byte m (plus p.address i)) (range_with_len 0 p.length))
    (sym (processor_same net p.node))

-- they are the same in nets that agree except for hidden bytes
pub bytes_alike : (a b : NetState) (p : Place) → hidden_net a ≡ hidden_net b → seen_bytes a p ≡ seen_bytes b p
bytes_alike a b p same =
    bytes_hidden a p
    ∙ ap (λ (w : NetState). map (λ i. bare_byte (processor_in w p.node) (plus p.address i)) (range_with_len 0 p.length))
    same
    ∙ sym (bytes_hidden b p)
