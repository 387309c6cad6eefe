-- The end as the program keeps it is the end of the machine.
use Rattle.std.proofs.Common.{◌≡◌, ℕ, suc, ◌+◌, ◌*◌, ◌-◌, refl, sym, ap, ap₂, ◌∙◌, List, [], ◌∷◌, ◌++◌}
use Rattle.std.proofs.Common.{length, drop, subst, arith, Bool, true, false, Option, Some, None}
use Rattle.std.specs.Prelude.{slice_get, slice_index, map, ◌/◌, nat_le, if◌then◌else◌}
use Rattle.std.specs.List.{range_with_len}
use Rattle.std.proofs.lemmas.Bool.{le-leb}
use Rattle.std.proofs.lemmas.List.{length-drop}
use Rattle.tword.specs.Stores.{Store}
use Rattle.tplan.specs.declared.plan.NodePlan.{NodePlan}
use Rattle.tplan.specs.declared.plan.SourcePlan.{SourcePlan}
use Rattle.tplan.specs.declared.plan.SinkPlan.{SinkPlan}
use Rattle.tplan.specs.declared.plan.Plan.{Plan}
use Rattle.tplan.specs.Wires.{end_at}
use Rattle.tfiles.specs.Texts.{node_line, source_line}
use Rattle.tprocesses.specs.Machine as machine
use Rattle.tprocesses.specs.Opening.{opening_state, messages_of, source_at, sink_at}
use Rattle.tprocesses.specs.Places.{WordAt, Messages}
use Rattle.tprocesses.specs.Touching.{Site}
use Rattle.tprocesses.specs.Values.{Value, IsWord, word_in}
use Rattle.tcertify.specs.Boards.{board_at}
use Rattle.tcertify.specs.Nodes.{board_of, node_at, node_site}
use Rattle.tcertify.specs.Running.{State}
use Rattle.tcertify.specs.Words.{word_of}
use Rattle.tcertify.specs.declared.node.Node.{Node}
use Rattle.tcertify.specs.declared.sink.Sink.{Sink}
use Rattle.tcertify.specs.declared.stored.StoredWord.{StoredWord}
use Rattle.tcertify.proofs.Places.{word_stands}
use Rattle.tverdict.specs.declared.machine.Machine.{Machine}
use Rattle.tverdict.specs.Machines.{at_node, kept_by, state_of, machine_at, IsSound}
use Rattle.tfindings.specs.Cells.{memory_text, words_of}
use Rattle.tfindings.specs.Ends.{each_from, end_text, kept_in, kept_node, kept_sink, kept_text, messages_in, node_text}
use Rattle.tfindings.specs.Ends.{sent_from, sent_text, sink_text, source_text, words_at}

-- words that a state has are those of a memory
shown_words : (s : State) (n a : ℕ) (words : List StoredWord)
    → ((j : ℕ) (w : StoredWord) → slice_get words j ≡ Some w → s (WordAt n (a + j)) ≡ IsWord (word_of w))
    → map (λ k. (word_in (s (WordAt n k))).cells) (range_with_len a (length words)) ≡ words_of words
shown_words s n a [] h = refl
shown_words s n a (w ∷ ws) h =
    let here : a ≡ a + 0 = omega arith in
    ap₂ (λ (c : Store) (rest : List Store). c ∷ rest)
    (ap (λ (v : Value). (word_in v).cells) (ap (λ (k : ℕ). s (WordAt n k)) here ∙ h 0 w refl))
    (shown_words s n (a + 1) ws (λ j x e. behind j x e))
  where
    behind : (j : ℕ) (x : StoredWord) → slice_get ws j ≡ Some x → s (WordAt n (a + 1 + j)) ≡ IsWord (word_of x)
    behind j x e =
        let next : a + 1 + j ≡ a + suc j = omega arith in ap (λ (k : ℕ). s (WordAt n k)) next ∙ h (suc j) x e

-- a node
node_shown : (plan : Plan) (nodes : List Node) (sent : List ℕ) (sinks : List Sink) (k : ℕ) (node : Node) (p : NodePlan)
    → slice_get nodes k ≡ Some node → node.words.number ≡ k → node_site node ≡ machine.site_of k p
    → kept_node k node ≡ node_text (state_of plan nodes sent sinks) k p
node_shown plan nodes sent sinks k node p there number site =
    let size : 4 * length node.words.items.items ≡ p.memory = ap (λ (s : Site). s.size) site in
    let count : length node.words.items.items ≡ p.memory / 4 = grind (arith, size) in
    ap (λ (ws : List Store). node_line k None false ++ memory_text ws)
    (sym (shown_words (state_of plan nodes sent sinks) k 0 node.words.items.items (λ j w e. stands j w e))
    ∙ ap (λ (n : ℕ). words_at (state_of plan nodes sent sinks) k n) count)
  where
    stands : (j : ℕ) (w : StoredWord) → slice_get node.words.items.items j ≡ Some w
        → state_of plan nodes sent sinks (WordAt k (0 + j)) ≡ IsWord (word_of w)
    stands j w e =
        let zero : 0 + j ≡ j = omega arith in
        ap (λ (i : ℕ). state_of plan nodes sent sinks (WordAt k i)) zero
        ∙ ap (λ (o : Option Node). at_node o (opening_state plan) (WordAt k j)) there
        ∙ ap (λ (n : ℕ). node_at node (opening_state plan) (WordAt n j)) (sym number)
        ∙ word_stands node.words j w e (board_at (board_of node) (opening_state plan))

-- parts that are alike one by one
alike : {A B : Type 0} (f : ℕ → A → List ℕ) (g : ℕ → B → List ℕ) (n : ℕ) (xs : List A) (ys : List B)
    → length xs ≡ length ys
    → ((j : ℕ) (x : A) (y : B) → slice_get xs j ≡ Some x → slice_get ys j ≡ Some y → f (n + j) x ≡ g (n + j) y)
    → each_from f n xs ≡ each_from g n ys
alike f g n [] [] e h = refl
alike f g n [] (y ∷ ys) e h = absurd (omega (arith, e))
alike f g n (x ∷ xs) [] e h = absurd (omega (arith, e))
alike {A} {B} f g n (x ∷ xs) (y ∷ ys) e h =
    let here : n + 0 ≡ n = omega arith in
    ap₂ (λ (t rest : List ℕ). t ++ rest)
    (subst (λ (k : ℕ). f k x ≡ g k y) here (h 0 x y refl refl))
    (alike f g (suc n) xs ys (omega (arith, e)) (λ j u v a b. behind j u v a b))
  where
    behind : (j : ℕ) (u : A) (v : B) → slice_get xs j ≡ Some u → slice_get ys j ≡ Some v
        → f (suc n + j) u ≡ g (suc n + j) v
    behind j u v a b =
        let next : n + suc j ≡ suc n + j = omega arith in
        subst (λ (k : ℕ). f k u ≡ g k v) next (h (suc j) u v a b)

-- a source
source_shown : (plan : Plan) (nodes : List Node) (sent : List ℕ) (sinks : List Sink) (j : ℕ) (p : SourcePlan)
    → slice_get plan.sources j ≡ Some p → sent_text (length plan.nodes + j) p (slice_index sent j)
    ≡ source_text (state_of plan nodes sent sinks) (length plan.nodes + j) p
source_shown plan nodes sent sinks j p there =
    let n : ℕ = length plan.nodes + j in
    let place : n - length plan.nodes ≡ j = omega arith in
    let behind : nat_le (length plan.nodes) n ≡ true = le-leb (length plan.nodes) n (omega arith) in
    let found : source_at plan (end_at n 0) ≡ Some p =
    ap (λ (b : Bool). if b then slice_get plan.sources (n - length plan.nodes) else None) behind
    ∙ ap (λ (k : ℕ). slice_get plan.sources k) place ∙ there in
    let left : messages_in (state_of plan nodes sent sinks (Messages (end_at n 0)))
    ≡ drop (slice_index sent j) p.messages =
    ap₂ (λ (k : ℕ) (o : Option SourcePlan). drop (slice_index sent k) (messages_of o)) place found in
    ap (λ (k : ℕ). source_line n (length p.messages - k) (length p.messages))
    (sym (ap length left ∙ length-drop (slice_index sent j) p.messages))

-- sources, one by one
sources_shown : (f : ℕ → SourcePlan → List ℕ) (n : ℕ) (ps : List SourcePlan) (sent : List ℕ)
    → length sent ≡ length ps
    → ((j : ℕ) (p : SourcePlan) → slice_get ps j ≡ Some p → sent_text (n + j) p (slice_index sent j) ≡ f (n + j) p)
    → sent_from n ps sent ≡ each_from f n ps
sources_shown f n [] sent e h = refl
sources_shown f n (p ∷ ps) [] e h = absurd (omega (arith, e))
sources_shown f n (p ∷ ps) (s ∷ ss) e h =
    let here : n + 0 ≡ n = omega arith in
    ap₂ (λ (t rest : List ℕ). t ++ rest) (subst (λ (k : ℕ). sent_text k p s ≡ f k p) here (h 0 p refl))
    (sources_shown f (suc n) ps ss (omega (arith, e)) (λ j q a. behind j q a))
  where
    behind : (j : ℕ) (q : SourcePlan) → slice_get ps j ≡ Some q
        → sent_text (suc n + j) q (slice_index ss j) ≡ f (suc n + j) q
    behind j q a =
        let next : n + suc j ≡ suc n + j = omega arith in
        subst (λ (k : ℕ). sent_text k q (slice_index ss j) ≡ f k q) next (h (suc j) q a)

-- a sink
sink_shown : (plan : Plan) (nodes : List Node) (sent : List ℕ) (sinks : List Sink) (j : ℕ) (sink : Sink) (p : SinkPlan)
    → slice_get sinks j ≡ Some sink → slice_get plan.sinks j ≡ Some p
    → kept_sink (length plan.nodes + length plan.sources + j) sink
    ≡ sink_text (state_of plan nodes sent sinks) (length plan.nodes + length plan.sources + j) p
sink_shown plan nodes sent sinks j sink p there planned =
    let first : ℕ = length plan.nodes + length plan.sources in
    let n : ℕ = first + j in
    let place : n - first ≡ j = omega arith in
    let behind : nat_le first n ≡ true = le-leb first n (omega arith) in
    let found : sink_at plan (end_at n 0) ≡ Some p =
    ap (λ (b : Bool). if b then slice_get plan.sinks (n - first) else None) behind
    ∙ ap (λ (k : ℕ). slice_get plan.sinks k) place ∙ planned in
    let kept : slice_get sinks (n - first) ≡ Some sink = ap (λ (k : ℕ). slice_get sinks k) place ∙ there in
    ap (λ (v : Value). kept_text n (kept_in v))
    (sym (ap₂ (λ (o : Option SinkPlan) (q : Option Sink). kept_by o q) found kept))

-- the whole end
end_shown : (plan : Plan) (m : Machine) → IsSound plan m
    → each_from kept_node 0 m.nodes.items
    ++ (sent_from (length m.nodes.items) plan.sources m.sent.items
    ++ each_from kept_sink (length m.nodes.items + length plan.sources) m.sinks.items)
    ≡ end_text plan (machine_at plan m)
end_shown plan m sound =
    let many : length m.nodes.items ≡ length plan.nodes = sound.nodes.many in
    ap₂ (λ (a b : List ℕ). a ++ b)
    (alike kept_node (node_text (machine_at plan m)) 0 m.nodes.items plan.nodes many (λ j x y a b. node j x y a b))
    (ap (λ (n : ℕ). sent_from n plan.sources m.sent.items
    ++ each_from kept_sink (n + length plan.sources) m.sinks.items) many
    ∙ ap₂ (λ (a b : List ℕ). a ++ b)
    (sources_shown (source_text (machine_at plan m)) (length plan.nodes) plan.sources m.sent.items sound.sent
    (λ j p a. source_shown plan m.nodes.items m.sent.items m.sinks.items j p a))
    (alike kept_sink (sink_text (machine_at plan m)) (length plan.nodes + length plan.sources) m.sinks.items plan.sinks
    sound.sinks (λ j x y a b. sink_shown plan m.nodes.items m.sent.items m.sinks.items j x y a b)))
  where
    node : (j : ℕ) (x : Node) (y : NodePlan) → slice_get m.nodes.items j ≡ Some x → slice_get plan.nodes j ≡ Some y
        → kept_node (0 + j) x ≡ node_text (machine_at plan m) (0 + j) y
    node j x y a b =
        let here : j ≡ 0 + j = omega arith in
        subst (λ (k : ℕ). kept_node k x ≡ node_text (machine_at plan m) k y) here
        (node_shown plan m.nodes.items m.sent.items m.sinks.items j x y a (sound.nodes.numbers j x a)
        (sound.nodes.sites j x y a b))

-- the same of parts that are equal to those of the plan and the machine
pub end_of_parts : (plan : Plan) (m : Machine) (nodes : List Node) (sources : List SourcePlan) (sent : List ℕ)
    (sinks : List Sink) → nodes ≡ m.nodes.items → sources ≡ plan.sources → sent ≡ m.sent.items
    → sinks ≡ m.sinks.items → IsSound plan m
    → each_from kept_node 0 nodes
    ++ (sent_from (length nodes) sources sent ++ each_from kept_sink (length nodes + length sources) sinks)
    ≡ end_text plan (machine_at plan m)
end_of_parts plan m nodes sources sent sinks a b c d sound =
    ap (λ (ns : List Node). each_from kept_node 0 ns
    ++ (sent_from (length ns) sources sent ++ each_from kept_sink (length ns + length sources) sinks)) a
    ∙ ap (λ (ss : List SourcePlan). each_from kept_node 0 m.nodes.items
    ++ (sent_from (length m.nodes.items) ss sent ++ each_from kept_sink (length m.nodes.items + length ss) sinks)) b
    ∙ ap₂ (λ (gone : List ℕ) (ends : List Sink). each_from kept_node 0 m.nodes.items
    ++ (sent_from (length m.nodes.items) plan.sources gone
    ++ each_from kept_sink (length m.nodes.items + length plan.sources) ends)) c d
    ∙ end_shown plan m sound
