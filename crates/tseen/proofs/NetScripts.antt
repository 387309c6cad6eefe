-- A net of which one source or sink changed is shown where that one is, and no place of others changed.
use Rattle.std.proofs.Common.{◌≡◌, ℕ, ◌+◌, refl, sym, subst, ◌∙◌, Bool, false, length, Some, arith, ◌⊎◌, inl, inr}
use Rattle.std.specs.Prelude.{◌==◌, slice_get}
use Rattle.std.proofs.lemmas.Bool.{ne_eqb, cases_eq}
use Rattle.std.proofs.lemmas.Option.{slice_get_within}
use Rattle.tplan.specs.declared.plan.SourcePlan.{SourcePlan}
use Rattle.tplan.specs.declared.plan.SinkPlan.{SinkPlan}
use Rattle.tplan.specs.declared.plan.Plan.{Plan}
use Rattle.tnet.specs.Rendezvous.{Node, Configuration, node_of, put_node}
use Rattle.tplan.specs.Wires.{end_at}
use Rattle.tnet.proofs.Puts.{put-same, put-other}
use Rattle.tproc.specs.declared.channels.Side.TheVariants.{Output}
use Rattle.tprocesses.specs.Places.{Place, Standing, LinkHalf, Messages, Kept}
use Rattle.tseen.specs.Scripts.{ShowsSource, ShowsSink}
use Rattle.tseen.specs.Shown.{Shows}
use Rattle.tseen.proofs.After.{State}
use Rattle.tseen.proofs.Frames.{node_at, node_stays}
use Rattle.tseen.proofs.Nets.{source_stays, sink_stays}
use Rattle.tseen.proofs.NoticedOffers.{NoticesSent}
use Rattle.tproc.specs.declared.channels.Side.TheVariants.{Output}

-- a place of the script of a node
abbrev pub is_script_of : ℕ → Place → Bool
is_script_of n (Messages e) = n == e.node
is_script_of n (Kept e) = n == e.node
is_script_of n _ = false

other_node : (n m : ℕ) (q : Place) → node_at q ≡ m → (m ≡ n → ⊥) → is_script_of n q ≡ false
other_node n m (Messages e) h d = ne_eqb n e.node (λ f. d (sym h ∙ sym f))
other_node n m (Kept e) h d = ne_eqb n e.node (λ f. d (sym h ∙ sym f))
other_node n m _ h d = refl

module _ (p : Plan) (c : Configuration) (s s' : State) (k : Shows p c s) (n : ℕ) (node : Node)
    (here : node_of c n ≡ Some node) (new : Node) (same : (q : Place) → is_script_of n q ≡ false → s' q ≡ s q)
    (noticed : NoticesSent p (put_node n new c) s') where
  -- a source
  pub net_source : (j : ℕ) (source : SourcePlan) → slice_get p.sources j ≡ Some source → n ≡ length p.nodes + j
      → ShowsSource s' (end_at n 0) new → Shows p (put_node n new c) s'
  net_source j source there e shown =
      record {
        named = k.named;
        sent = k.sent;
        wires = k.wires;
        processors = λ m plan is. (let old = k.processors m plan is in
            let d : m ≡ n → ⊥ = λ f. omega (arith, e, f, slice_get_within p.nodes m plan is) in (
              old.0,
              put-other c n m new d ∙ old.1,
              node_stays m s s' (λ q h. same q (other_node n m q h d)) plan (k.named m) (k.sent m) old.0 old.2,
            ));
        sources = λ i other is. by_source i other is (cases_eq i j);
        sinks = λ i sink is. (let old = k.sinks i sink is in
            let d : length p.nodes + length p.sources + i ≡ n → ⊥ =
            λ f. omega (arith, e, f, slice_get_within p.sources j source there) in (
              old.0,
              put-other c n (length p.nodes + length p.sources + i) new d ∙ old.1,
              sink_stays s s' (end_at (length p.nodes + length p.sources + i) 0) old.0
                  (same (Kept (end_at (length p.nodes + length p.sources + i) 0))
                  (other_node n (length p.nodes + length p.sources + i)
                  (Kept (end_at (length p.nodes + length p.sources + i) 0)) refl d))
                  (same (LinkHalf (end_at (length p.nodes + length p.sources + i) 0) Output)
                  (other_node n (length p.nodes + length p.sources + i)
                  (LinkHalf (end_at (length p.nodes + length p.sources + i) 0) Output) refl d)) old.2,
            ));
        noticed = noticed;
        nobody = λ x none. same (Standing x) refl ∙ k.nobody x none;
      }
    where
      by_source : (i : ℕ) (other : SourcePlan) → slice_get p.sources i ≡ Some other → (i ≡ j) ⊎ (i ≡ j → ⊥)
          → (x : Node) × (node_of (put_node n new c) (length p.nodes + i) ≡ Some x)
          × ShowsSource s' (end_at (length p.nodes + i) 0) x
      by_source i other is (inl f) =
          subst (λ z. (x : Node) × (node_of (put_node n new c) z ≡ Some x) × ShowsSource s' (end_at z 0) x)
          (omega (arith, e, f)) (new, put-same c n new node here, shown)
      by_source i other is (inr f) =
          let old = k.sources i other is in
          let d : length p.nodes + i ≡ n → ⊥ = λ g. f (omega (arith, e, g)) in (
            old.0,
            put-other c n (length p.nodes + i) new d ∙ old.1,
            source_stays s s' (end_at (length p.nodes + i) 0) old.0
                (same (Messages (end_at (length p.nodes + i) 0))
                (other_node n (length p.nodes + i) (Messages (end_at (length p.nodes + i) 0)) refl d)) old.2,
          )

  -- a sink
  pub net_sink : (j : ℕ) (sink : SinkPlan) → slice_get p.sinks j ≡ Some sink
      → n ≡ length p.nodes + length p.sources + j → ShowsSink s' (end_at n 0) new → Shows p (put_node n new c) s'
  net_sink j sink there e shown =
      record {
        named = k.named;
        sent = k.sent;
        wires = k.wires;
        processors = λ m plan is. (let old = k.processors m plan is in
            let d : m ≡ n → ⊥ = λ f. omega (arith, e, f, slice_get_within p.nodes m plan is) in (
              old.0,
              put-other c n m new d ∙ old.1,
              node_stays m s s' (λ q h. same q (other_node n m q h d)) plan (k.named m) (k.sent m) old.0 old.2,
            ));
        sources = λ i source is. (let old = k.sources i source is in
            let d : length p.nodes + i ≡ n → ⊥ =
            λ f. omega (arith, e, f, slice_get_within p.sources i source is) in (
              old.0,
              put-other c n (length p.nodes + i) new d ∙ old.1,
              source_stays s s' (end_at (length p.nodes + i) 0) old.0
                  (same (Messages (end_at (length p.nodes + i) 0))
                  (other_node n (length p.nodes + i) (Messages (end_at (length p.nodes + i) 0)) refl d)) old.2,
            ));
        sinks = λ i other is. by_sink i other is (cases_eq i j);
        noticed = noticed;
        nobody = λ x none. same (Standing x) refl ∙ k.nobody x none;
      }
    where
      by_sink : (i : ℕ) (other : SinkPlan) → slice_get p.sinks i ≡ Some other → (i ≡ j) ⊎ (i ≡ j → ⊥)
          → (x : Node) × (node_of (put_node n new c) (length p.nodes + length p.sources + i) ≡ Some x)
          × ShowsSink s' (end_at (length p.nodes + length p.sources + i) 0) x
      by_sink i other is (inl f) =
          subst (λ z. (x : Node) × (node_of (put_node n new c) z ≡ Some x) × ShowsSink s' (end_at z 0) x)
          (omega (arith, e, f)) (new, put-same c n new node here, shown)
      by_sink i other is (inr f) =
          let old = k.sinks i other is in
          let d : length p.nodes + length p.sources + i ≡ n → ⊥ = λ g. f (omega (arith, e, g)) in (
            old.0,
            put-other c n (length p.nodes + length p.sources + i) new d ∙ old.1,
            sink_stays s s' (end_at (length p.nodes + length p.sources + i) 0) old.0
                (same (Kept (end_at (length p.nodes + length p.sources + i) 0))
                (other_node n (length p.nodes + length p.sources + i)
                (Kept (end_at (length p.nodes + length p.sources + i) 0)) refl d))
                (same (LinkHalf (end_at (length p.nodes + length p.sources + i) 0) Output)
                (other_node n (length p.nodes + length p.sources + i)
                (LinkHalf (end_at (length p.nodes + length p.sources + i) 0) Output) refl d)) old.2,
          )
