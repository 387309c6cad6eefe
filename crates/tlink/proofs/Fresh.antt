-- A node before its first event is whole where its processor is placed and has noticed nothing.
use Rattle.std.proofs.Common.{◌≡◌, ◌∙◌, ℕ, zero, suc, ◌+◌, ◌<◌, ◌≤◌, refl, sym, ap, List, [], ◌∷◌, ◌++◌, length, map}
use Rattle.std.proofs.Common.{take, get_or, length-append, subst, Fits, w8}
use Rattle.std.proofs.Common.{Bool, true, false, Option, Some, None, ◌⊎◌, inl, inr, arith}
use Rattle.std.proofs.lemmas.Bool.{cases_lt, lt-ltb}
use Rattle.std.proofs.lemmas.List.{length-map, take_more, map-append, append-nil, get_or_default}
use Rattle.std.proofs.lemmas.List.Elements.{All-map}
use Rattle.std.proofs.lemmas.List.Folds.{concat-append}
use Rattle.std.proofs.lemmas.List.Sums.{sum_by-cons}
use Rattle.std.specs.List.{concat}
use Rattle.std.specs.Prelude.{IfSome, MatchOption, All, sum, nat_lt}
use Rattle.tproc.specs.declared.offer.Offer.{Offer}
use Rattle.tproc.specs.declared.waiter.Reason.{Reason}
use Rattle.tproc.specs.declared.waiter.Reason.TheVariants.{LinkInput, LinkOutput}
use Rattle.tword.specs.Words.{most_neg}
use Rattle.tproc.specs.LinkChannels.{link_end}
use Rattle.tproc.specs.declared.waiter.LinkEnd.{LinkEnd}
use Rattle.tproc.specs.Machine.{Machine}
use Rattle.tproc.specs.Placement.{IsBuffer, IsPlaced, WaitsFor}
use Rattle.tproc.proofs.Opening.{same_at}
use Rattle.tword.specs.Limits.{is_bad_message}
use Rattle.tlink.specs.Roles.{script_control, first_offer, offering}
use Rattle.tlink.specs.Node.{counts_at, fresh_node, fresh_source, input_at, no_counts, output_at}
use Rattle.tlink.specs.Scripts.{AreBytes}
use Rattle.tlink.proofs.Held.{script-else}
use Rattle.tlink.specs.Whole.{HasNoticedNothing, IsCounted, IsWhole}

-- what fits bytes is bytes
pub are_bytes : (bytes : List ℕ) → ((k : ℕ) → Fits w8 (get_or bytes k 0)) → AreBytes bytes
are_bytes bytes h k d l = subst (λ (b : ℕ). b < 256) (get_or_default bytes k 0 d l) (omega (arith, h k))

module _ (m : Machine) (wired : List Bool) where
  not_counted : (l : ℕ) → counts_at (fresh_node m wired) l ≡ no_counts
  not_counted l = same_at no_counts 4 l

  -- a pending message has a byte that is not counted yet
  uncounted_output : (reason : Reason) (o : Option Offer)
      → IfSome o (λ o. WaitsFor m.control o.wdesc reason × IsBuffer (length m.store) o)
      → MatchOption o ((no_counts.sent ≡ 0) × (no_counts.acked ≡ 0)) (λ o. no_counts.acked < o.length)
  uncounted_output reason None h = (refl, refl)
  uncounted_output reason (Some o) h = h.1.0

  uncounted_input : (reason : Reason) (o : Option Offer)
      → IfSome o (λ o. WaitsFor m.control o.wdesc reason × IsBuffer (length m.store) o)
      → MatchOption o (no_counts.got ≡ 0) (λ o. no_counts.got < o.length)
  uncounted_input reason None h = refl
  uncounted_input reason (Some o) h = h.1.0

  counted : IsPlaced m → HasNoticedNothing m.control → IsCounted (fresh_node m wired)
  counted placed quiet =
      record {
        four = refl;
        outputs =
            λ l. rw (not_counted l)
            (uncounted_output (LinkOutput l) (output_at (fresh_node m wired) l) (placed.claimed.outputs l));
        inputs = λ l. rw (not_counted l)
            (uncounted_input (LinkInput l) (input_at (fresh_node m wired) l) (placed.claimed.inputs l));
        noticed = λ l b. rw (not_counted l) (quiet l b);
      }

  pub whole_fresh : IsPlaced m → HasNoticedNothing m.control → length wired ≡ 4 → IsWhole (fresh_node m wired)
  whole_fresh placed quiet four =
      record { held = (placed.claimed, placed.apart); counted = counted placed quiet; wires = four }

-- bytes behind one another are as many as all lists have
pub length-joined : (lists : List (List ℕ)) → length (concat lists) ≡ sum (map length lists)
length-joined [] = refl
length-joined (x ∷ xs) =
    length-append x (concat xs) ∙ ap (λ n. length x + n) (length-joined xs)
    ∙ sym (sum_by-cons (λ n. n) (length x) (map length xs))

-- one more message among those that were copied
pub joined_more : (messages : List (List ℕ)) (i : ℕ) (m : List ℕ) → i < length messages → m ≡ get_or messages i m
    → concat (take (i + 1) messages) ≡ concat (take i messages) ++ m
joined_more messages i m b e =
    ap concat (take_more messages i m b) ∙ concat-append (take i messages) (get_or messages i m ∷ [])
    ∙ ap (λ (xs : List ℕ). concat (take i messages) ++ xs) (append-nil (get_or messages i m) ∙ sym e)

pub lengths_more : (messages : List (List ℕ)) (i : ℕ) (m : List ℕ) → i < length messages → m ≡ get_or messages i m
    → map length (take (i + 1) messages) ≡ map length (take i messages) ++ length m ∷ []
lengths_more messages i m b e =
    ap (λ (ms : List (List ℕ)). map length ms) (take_more messages i m b)
    ∙ map-append length (take i messages) (get_or messages i m ∷ [])
    ∙ ap (λ (x : List ℕ). map length (take i messages) ++ length x ∷ []) (sym e)

module _ (messages : List (List ℕ)) (good : All (λ m. is_bad_message m ≡ false) messages) where
  -- no message is empty
  some_byte : (m : List ℕ) → is_bad_message m ≡ false → 0 < length m
  some_byte m h = by (cases_lt 0 (length m))
    where
      by : (0 < length m) ⊎ (length m ≤ 0) → 0 < length m
      by (inl b) = b
      by (inr b) = let e : nat_lt (length m) 1 ≡ true = lt-ltb (length m) 1 (omega arith) in
          let f : true ≡ false = rw e at h in cc

  abbrev only : LinkEnd
  only = offering most_neg (map length messages)

  offers : (l : ℕ)
      → MatchOption (link_end (script_control only) l).output ((no_counts.sent ≡ 0) × (no_counts.acked ≡ 0))
      (λ o. no_counts.acked < o.length)
  offers zero = by messages good
    where
      by : (ms : List (List ℕ)) → All (λ m. is_bad_message m ≡ false) ms
          → MatchOption (first_offer most_neg (map length ms)) ((no_counts.sent ≡ 0) × (no_counts.acked ≡ 0))
          (λ o. no_counts.acked < o.length)
      by [] h = (refl, refl)
      by (m ∷ ms) h = some_byte m (h 0 m (omega arith))
  offers (suc l) = rw (script-else only l) (refl, refl)

  asks_none : (l : ℕ) → (link_end (script_control only) l).input ≡ None
  asks_none zero = refl
  asks_none (suc l) = rw (script-else only l) refl

  quiet : (l : ℕ) → (link_end (script_control only) l).noticed ≡ false
  quiet zero = refl
  quiet (suc l) = rw (script-else only l) refl

  pub whole_source : IsWhole (fresh_source messages)
  whole_source =
      record {
        held = record {
          start = 0;
          control = refl;
          within = omega (arith, length-joined messages, length-map (concat messages) Some);
          each = All-map (λ n. 0 < n) length messages (λ k d b. some_byte _ (good k d b));
        };
        counted = record {
          four = refl;
          outputs = λ l. rw (same_at no_counts 4 l) (offers l);
          inputs = λ l. rw (same_at no_counts 4 l, asks_none l) refl;
          noticed = λ l b. rw (same_at no_counts 4 l) (quiet l);
        };
        wires = refl;
      }
