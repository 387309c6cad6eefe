-- What is shown of internal channels stays shown where those that wait at one wait there still.
use Rattle.tseen.specs.Halves.{HasHolder}
use Rattle.tseen.specs.Choices.{enabler}
use Rattle.tproc.specs.declared.channels.Side.TheVariants.{Input}
use Rattle.std.proofs.Common.{inl, inr}
use Rattle.std.proofs.Common.{◌≡◌, ℕ, sym, ap, subst, ◌∙◌, length, Some, None}
use Rattle.tword.specs.Stores.{word_at}
use Rattle.tword.specs.Touches.{word_place_break}
use Rattle.tword.specs.declared.span.Span.{Span}
use Rattle.tproc.specs.declared.channels.Side.{Side}
use Rattle.tproc.specs.Machine.{Machine}
use Rattle.tproc.specs.ProcessStatus.{reason_of}
use Rattle.tprocesses.specs.Places.{Name, Half}
use Rattle.tprocesses.specs.Values.{Value, TakenBy, Engaged, IsHalf, Request, half_in}
use Rattle.tprocesses.specs.Touching.{word_number}
use Rattle.tseen.specs.Seats.{Seat, Waiting}
use Rattle.tseen.specs.Words.{use_at}
use Rattle.tseen.specs.Halves.{ShowsChannels, IsTakenHalf, reason_at}
use Rattle.tseen.proofs.After.{State}
use Rattle.tseen.proofs.Cells.{use_of}

-- the same processes wait at channels, under the same names, and their words stand
pub record AreKeptChannels (s s' : State) (n : ℕ) (named named' : Seat → Name) (m m' : Machine) : Type 0 where
  pub waits : (w channel : ℕ) (side : Side) (buffer : Span)
      → reason_of m.control w ≡ Some (reason_at side channel buffer)
      → (reason_of m'.control w ≡ Some (reason_at side channel buffer)) × (named' (Waiting w) ≡ named (Waiting w))
  pub waited : (w channel : ℕ) (side : Side) (buffer : Span)
      → reason_of m'.control w ≡ Some (reason_at side channel buffer)
      → (reason_of m.control w ≡ Some (reason_at side channel buffer)) × (named' (Waiting w) ≡ named (Waiting w))
  pub engaged_to : (k : ℕ) → use_of s n k ≡ Engaged → use_of s' n k ≡ Engaged
  pub engaged_back : (k : ℕ) → use_of s' n k ≡ Engaged → use_of s n k ≡ Engaged
  pub halves : (c : ℕ) (side : Side) → s' (Half n c side) ≡ s (Half n c side)
  pub size : length m'.store ≡ length m.store
  pub words : (c : ℕ) → word_place_break (length m.store) c ≡ None → use_at s n c ≡ Engaged
      → word_at m'.store c ≡ word_at m.store c

module _ (s s' : State) (n : ℕ) (named named' : Seat → Name) (m m' : Machine)
    (k : AreKeptChannels s s' n named named' m m') where
  half_kept : (c : ℕ) (side : Side) (q : Request) → IsTakenHalf s n named m c side q
      → IsTakenHalf s' n named' m' c side q
  half_kept c side q t =
      let w = k.waits t.process c side q.buffer t.waits in
      record {
        process = t.process;
        name = w.1 ∙ t.name;
        waits = w.0;
        channel_word = k.words c t.placed t.engaged ∙ t.channel_word;
        engaged = k.engaged_to (word_number c) t.engaged;
        placed = subst (λ z. word_place_break z c ≡ None) (sym k.size) t.placed;
      }

  pub channels_kept : ShowsChannels s n named m → ShowsChannels s' n named' m'
  channels_kept h =
      record {
        taken = λ c side q e. half_kept c side q (h.taken c side q (sym (k.halves c side) ∙ e));
        halves = λ c side. ((h.halves c side).0, k.halves c side ∙ (h.halves c side).1);
        waiting = λ process c side buffer e. (let w = k.waited process c side buffer e in
            k.halves c side ∙ h.waiting process c side buffer w.0
            ∙ ap (λ y. IsHalf (TakenBy (record { process = y; buffer = buffer }))) (sym w.1));
        engaged = λ j e. (let f = h.engaged j (k.engaged_back j e) in
            (f.0, f.1, held f.0 f.2));
      }
    where
      held : (c : ℕ) → HasHolder s n named c → HasHolder s' n named' c
      held c (inl (side, q, e)) = inl (side, q, k.halves c side ∙ e)
      held c (inr (x, e)) = inr (x, ap (λ (v : Value). enabler (half_in v)) (k.halves c Input) ∙ e)
