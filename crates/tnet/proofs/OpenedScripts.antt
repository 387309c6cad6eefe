-- Sources and sinks before their first event.
use Rattle.std.proofs.Common.{◌≡◌, ℕ, zero, suc, ◌+◌, ◌<◌, ◌≤◌, refl, sym, ap, ◌∙◌, List, [], ◌∷◌, length, map}
use Rattle.std.proofs.Common.{get_or, replicate, Bool, false, Option, Some, All, arith}
use Rattle.std.specs.Prelude.{IfSome, IsSome, MatchOption, sum, nat_lt}
use Rattle.std.specs.List.{concat, list_any}
use Rattle.std.proofs.lemmas.Bool.{or_parts, ltb-false}
use Rattle.std.proofs.lemmas.List.{length-map, length-append, length-replicate}
use Rattle.std.proofs.lemmas.List.Elements.{All-nil, All-cons, All-head, All-tail, All-map, All-append, All-replicate}
use Rattle.std.proofs.lemmas.List.Elements.{All-weaker}
use Rattle.std.proofs.lemmas.List.Sums.{sum_by-cons}
use Rattle.tword.specs.Words.{most_neg}
use Rattle.tword.specs.Stores.{as_cells}
use Rattle.tproc.specs.declared.offer.Offer.{Offer}
use Rattle.tproc.specs.declared.waiter.LinkEnd.{LinkEnd}
use Rattle.tproc.specs.LinkChannels.{link_end, quiet_end}
use Rattle.tproc.proofs.Opening.{same_at}
use Rattle.tword.specs.Limits.{is_bad_message}
use Rattle.tlink.specs.Roles.{script_control, first_offer, offering, asking}
use Rattle.tlink.specs.Node.{NodeState, counts_at, no_counts, output_at, fresh_source, fresh_sink}
use Rattle.tlink.specs.Whole.{IsCounted, IsWhole}
use Rattle.tlink.proofs.Held.{script-else}
use Rattle.tplan.specs.declared.plan.SourcePlan.{SourcePlan}
use Rattle.tplan.specs.declared.plan.SinkPlan.{SinkPlan}
use Rattle.tplan.specs.declared.plan.Plan.{Plan}
use Rattle.tnet.specs.Sound.{IsVisible, IsSoundNode}
use Rattle.tnet.specs.Building.{AreBytes, has_too_many, fresh_scripts}

-- nothing was counted, and what is offered has a byte
pub record IsFresh (n : NodeState) : Type 0 where
  pub counts : (l : ℕ) → counts_at n l ≡ no_counts
  pub offers : (l : ℕ) → IfSome (output_at n l) (λ o. 0 < o.length)

-- what holds of link 0, and of one where nothing is pending, holds of each
each_link : (P : LinkEnd → Type 0) (e : LinkEnd) → P e → P quiet_end → (l : ℕ) → P (link_end (script_control e) l)
each_link P e here else zero = here
each_link P e here else (suc l) = rw (script-else e l) else

-- no message is empty
lengths : (messages : List (List ℕ)) → All (λ m. is_bad_message m ≡ false) messages
    → All (λ n. 0 < n) (map length messages)
lengths messages good =
    All-map (λ n. 0 < n) (λ (m : List ℕ). length m) messages
    (All-weaker (λ m. is_bad_message m ≡ false) (λ m. 0 < length m)
    (λ m h. (let a : (nat_lt (length m) 1 ≡ false) × (_ ≡ false) = or_parts _ _ h in
    omega (arith, ltb-false (length m) 1 a.0))) messages good)

first_long : (address : ℕ) (ns : List ℕ) → All (λ n. 0 < n) ns → IfSome (first_offer address ns) (λ o. 0 < o.length)
first_long address [] h = tt
first_long address (n ∷ ns) h = All-head (λ n. 0 < n) n ns h

-- nothing was counted of what is pending, or is not
abbrev IsUnacked : Option Offer → Type 0
IsUnacked o = MatchOption o ((no_counts.sent ≡ 0) × (no_counts.acked ≡ 0)) (λ o. 0 < o.length)

first_unacked : (address : ℕ) (ns : List ℕ) → All (λ n. 0 < n) ns
    → IsUnacked (first_offer address ns)
first_unacked address [] h = (refl, refl)
first_unacked address (n ∷ ns) h = All-head (λ n. 0 < n) n ns h

length-concat : (xs : List (List ℕ)) → length (concat xs) ≡ sum (map length xs)
length-concat [] = refl
length-concat (x ∷ xs) =
    length-append x (concat xs) ∙ ap (λ (n : ℕ). length x + n) (length-concat xs)
    ∙ sym (sum_by-cons (λ n. n) (length x) (map length xs))

concat_bytes : (xs : List (List ℕ)) → All AreBytes xs → AreBytes (concat xs)
concat_bytes [] h = All-nil (λ b. b < 256)
concat_bytes (x ∷ xs) h =
    All-append (λ b. b < 256) x (concat xs) (All-head AreBytes x xs h) (concat_bytes xs (All-tail AreBytes x xs h))

-- bytes are visible
cells_visible : (bytes : List ℕ) → AreBytes bytes → IsVisible (as_cells bytes)
cells_visible bytes h =
    All-map (λ cell. IfSome cell (λ b. b < 256) × IsSome cell) (λ (b : ℕ). Some b) bytes (λ k d l. (h k d l, refl))

module _ (messages : List (List ℕ)) (good : All (λ m. is_bad_message m ≡ false) messages) where
  pub source_fresh : IsFresh (fresh_source messages)
  source_fresh =
      record {
        counts = λ l. same_at no_counts 4 l;
        offers =
            each_link (λ e. IfSome e.output (λ o. 0 < o.length)) (offering most_neg (map length messages))
            (first_long most_neg (map length messages) (lengths messages good)) tt;
      }

  source_counted : IsCounted (fresh_source messages)
  source_counted =
      record {
        four = refl;
        outputs = λ l. rw (source_fresh.counts l)
            (each_link (λ e. IsUnacked e.output) (offering most_neg (map length messages))
            (first_unacked most_neg (map length messages) (lengths messages good)) (refl, refl) l);
        inputs = λ l. rw (source_fresh.counts l)
            (each_link (λ e. MatchOption e.input (no_counts.got ≡ 0) (λ o. 0 < o.length))
            (offering most_neg (map length messages)) refl refl l);
        noticed = λ l b. rw (source_fresh.counts l)
            (each_link (λ e. e.noticed ≡ false) (offering most_neg (map length messages)) refl refl l);
      }

  source_whole : IsWhole (fresh_source messages)
  source_whole =
      record {
        held = record {
          start = 0;
          control = ap (λ (a : ℕ). script_control (offering a (map length messages))) (omega arith);
          within = omega (arith, length-concat messages, length-map (concat messages) (λ (b : ℕ). Some b));
          each = lengths messages good;
        };
        counted = source_counted;
        wires = refl;
      }

  pub source_sound : All AreBytes messages → IsSoundNode (fresh_source messages)
  source_sound bytes =
      record { whole = source_whole; visible = cells_visible (concat messages) (concat_bytes messages bytes) }

module _ (capacity : ℕ) where
  pub sink_fresh : IsFresh (fresh_sink capacity)
  sink_fresh =
      record {
        counts = λ l. same_at no_counts 4 l;
        offers = each_link (λ e. IfSome e.output (λ o. 0 < o.length)) (asking most_neg capacity) tt tt;
      }

  sink_counted : IsCounted (fresh_sink capacity)
  sink_counted =
      record {
        four = refl;
        outputs = λ l. rw (sink_fresh.counts l)
            (each_link (λ e. IsUnacked e.output) (asking most_neg capacity)
            (refl, refl) (refl, refl) l);
        inputs = λ l. rw (sink_fresh.counts l)
            (each_link (λ e. MatchOption e.input (no_counts.got ≡ 0) (λ o. 0 ≤ o.length)) (asking most_neg capacity)
            (omega arith)
            refl l);
        noticed = λ l b. rw (sink_fresh.counts l)
            (each_link (λ e. e.noticed ≡ false) (asking most_neg capacity) refl refl l);
      }

  pub sink_sound : IsSoundNode (fresh_sink capacity)
  sink_sound =
      record {
        whole = record {
          held = record {
            room = capacity;
            control = ap (λ (a : ℕ). script_control (asking a capacity)) (omega arith);
            within = omega (
              arith,
              length-map (replicate capacity 0) (λ (b : ℕ). Some b),
              length-replicate {A = ℕ} capacity 0,
            );
          };
          counted = sink_counted;
          wires = refl;
        };
        visible = cells_visible (replicate capacity 0) (All-replicate (λ b. b < 256) capacity 0 (omega arith));
      }

-- no test passes anywhere
none_of : {X : Type 0} (p : X → Bool) (xs : List X) → list_any p xs ≡ false → All (λ x. p x ≡ false) xs
none_of p [] h = All-nil (λ x. p x ≡ false)
none_of p (x ∷ xs) h =
    let a : (p x ≡ false) × (list_any p xs ≡ false) = or_parts _ _ h in
    All-cons (λ x. p x ≡ false) x xs a.0 (none_of p xs a.1)

pub good_messages : (s : SourcePlan) → has_too_many s ≡ false → All (λ m. is_bad_message m ≡ false) s.messages
good_messages s h = none_of is_bad_message s.messages (or_parts _ _ h).1

-- the scripts of a plan
module _ (p : Plan) (few : list_any has_too_many p.sources ≡ false) where
  pub scripts_fresh : All IsFresh (fresh_scripts p)
  scripts_fresh =
      All-append IsFresh (map (λ s. fresh_source s.messages) p.sources) (map (λ s. fresh_sink s.capacity) p.sinks)
      (All-map IsFresh (λ (s : SourcePlan). fresh_source s.messages) p.sources
      (All-weaker (λ s. has_too_many s ≡ false) (λ s. IsFresh (fresh_source s.messages))
      (λ s h. source_fresh s.messages (good_messages s h)) p.sources (none_of has_too_many p.sources few)))
      (All-map IsFresh (λ (s : SinkPlan). fresh_sink s.capacity) p.sinks
      (λ k d l. sink_fresh (get_or p.sinks k d).capacity))

  pub scripts_sound : All (λ s. All AreBytes s.messages) p.sources → All IsSoundNode (fresh_scripts p)
  scripts_sound bytes =
      All-append IsSoundNode (map (λ s. fresh_source s.messages) p.sources) (map (λ s. fresh_sink s.capacity) p.sinks)
      (All-map IsSoundNode (λ (s : SourcePlan). fresh_source s.messages) p.sources
      (λ k d l. source_sound (get_or p.sources k d).messages
      (good_messages (get_or p.sources k d) (none_of has_too_many p.sources few k d l)) (bytes k d l)))
      (All-map IsSoundNode (λ (s : SinkPlan). fresh_sink s.capacity) p.sinks
      (λ k d l. sink_sound (get_or p.sinks k d).capacity))
