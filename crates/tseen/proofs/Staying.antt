-- What is shown of marks, channels and links stays shown where what it looks at stays.
use Rattle.std.proofs.Common.{◌⊎◌, inl, inr, ◌≡◌, ℕ, refl, sym, ap, ◌∙◌, List, [], ◌∷◌, length, pos, false, All}
use Rattle.std.proofs.Common.{Contains, get_or, arith, subst, Option, Some, None, true}
use Rattle.std.proofs.lemmas.List.Elements.{All-cons, All-nil, Contains-get_or}
use Rattle.tword.specs.Stores.{word_at}
use Rattle.tword.specs.Words.{word_below}
use Rattle.tword.specs.Touches.{word_place_break}
use Rattle.tproc.specs.declared.channels.Side.{Side}
use Rattle.tproc.specs.declared.channels.Side.TheVariants.{Input, Output}
use Rattle.tproc.specs.declared.waiter.LinkEnd.{LinkEnd}
use Rattle.tproc.specs.declared.offer.Offer.{Offer}
use Rattle.tproc.specs.Machine.{Control, Machine, descheduled, buffer_of}
use Rattle.tproc.specs.ProcessStatus.{reason_of}
use Rattle.tproc.specs.LinkChannels.{link_end}
use Rattle.tnet.specs.Rendezvous.{Node, was_copied}
use Rattle.tplan.specs.Wires.{end_at}
use Rattle.tprocesses.specs.Places.{Name, WordAt, Sending, Half, LinkHalf, Unfinished}
use Rattle.tprocesses.specs.Values.{Value, Saved, Receiving, Engaged, Offered, IsAmount, IsLink, word_in, link_in}
use Rattle.tprocesses.specs.Values.{unknown}
use Rattle.tprocesses.specs.Touching.{word_number}
use Rattle.tprocesses.specs.Machine.{awaits_successor}
use Rattle.tseen.specs.Seats.{Seat, Waiting}
use Rattle.tseen.specs.Outputs.{Pending, sendings}
use Rattle.tseen.specs.Words.{AreMarked, AreSavedWords, use_at, cells_at, is_set_aside}
use Rattle.tseen.specs.Choices.{unfired, input_at, descriptor_at}
use Rattle.tseen.specs.Halves.{ShowsChannels, ShowsLink, IsInput, request_of}
use Rattle.tseen.proofs.After.{State}
use Rattle.tseen.proofs.Cells.{use_of}
use Rattle.tseen.proofs.ChannelsKept.{channels_kept}
use Rattle.tseen.proofs.InputChannels.{remembered_stays}

module _ (s : State) (n w : ℕ) where
  -- the saved words below a workspace, one by one
  pub saved_words : use_at s n (word_below w 1) ≡ Saved → use_at s n (word_below w 2) ≡ Saved
      → is_set_aside (use_at s n (word_below w 3)) ≡ true → cells_at s n (word_below w 1) ≡ unknown
      → cells_at s n (word_below w 2) ≡ unknown → AreSavedWords s n w
  saved_words one two three none none' =
      let P : ℕ → Type 0 = λ k. use_at s n (word_below w k) ≡ Saved in
      let R : ℕ → Type 0 = λ k. cells_at s n (word_below w k) ≡ unknown in
      record {
        used = All-cons P 1 (2 ∷ []) one (All-cons P 2 [] two (All-nil P));
        third = three;
        unknown = All-cons R 1 (2 ∷ []) none (All-cons R 2 [] none' (All-nil R));
      }

  pub used_one : AreSavedWords s n w → use_at s n (word_below w 1) ≡ Saved
  used_one h = h.used 0 1 (omega arith)

  pub used_two : AreSavedWords s n w → use_at s n (word_below w 2) ≡ Saved
  used_two h = h.used 1 1 (omega arith)

  pub unknown_one : AreSavedWords s n w → cells_at s n (word_below w 1) ≡ unknown
  unknown_one h = h.unknown 0 1 (omega arith)

  pub unknown_two : AreSavedWords s n w → cells_at s n (word_below w 2) ≡ unknown
  unknown_two h = h.unknown 1 1 (omega arith)

-- saved words stay so where their values do
pub saved_words_alike : (s s' : State) (n w : ℕ)
    → s' (WordAt n (word_number (word_below w 1))) ≡ s (WordAt n (word_number (word_below w 1)))
    → s' (WordAt n (word_number (word_below w 2))) ≡ s (WordAt n (word_number (word_below w 2)))
    → s' (WordAt n (word_number (word_below w 3))) ≡ s (WordAt n (word_number (word_below w 3)))
    → AreSavedWords s n w → AreSavedWords s' n w
saved_words_alike s s' n w one two three h =
    saved_words s' n w (ap (λ (v : Value). (word_in v).used) one ∙ used_one s n w h)
    (ap (λ (v : Value). (word_in v).used) two ∙ used_two s n w h)
    (ap (λ (v : Value). is_set_aside (word_in v).used) three ∙ h.third)
    (ap (λ (v : Value). (word_in v).cells) one ∙ unknown_one s n w h)
    (ap (λ (v : Value). (word_in v).cells) two ∙ unknown_two s n w h)

pub saved_words_stay : (s s' : State) (n w : ℕ)
    → ((k : ℕ) → is_set_aside (use_of s n k) ≡ true → s' (WordAt n k) ≡ s (WordAt n k))
    → AreSavedWords s n w → AreSavedWords s' n w
saved_words_stay s s' n w stays h =
    saved_words_alike s s' n w (stays _ (ap is_set_aside (used_one s n w h)))
    (stays _ (ap is_set_aside (used_two s n w h))) (stays _ h.third) h

-- what holds of each one that a list contains
pub each_contained : {X : Type 0} (P : X → Type 0) (xs : List X) → ((x : X) → Contains xs x → P x) → All P xs
each_contained P xs h i d inside = h (get_or xs i d) (Contains-get_or xs i d inside)

module _ (s s' : State) (n : ℕ) where
  -- marks
  pub marks_from : (sent sent' : ℕ → Option Pending) (m m' : Control)
      → ((v : ℕ) → Contains (descheduled m') v → AreSavedWords s' n v)
      → ((l : ℕ) → (link_end m' l).input ≡ (link_end m l).input)
      → ((k : ℕ) → use_of s n k ≡ Receiving → use_of s' n k ≡ Receiving)
      → ((k : ℕ) → s' (Sending n k) ≡ IsAmount (pos (sendings sent' k)))
      → ((k : ℕ) → awaits_successor (use_of s' n k) ≡ false) → AreMarked s n sent m → AreMarked s' n sent' m'
  marks_from sent sent' m m' saved links receiving sending none k =
      record {
        saved = each_contained (AreSavedWords s' n) (descheduled m') saved;
        inputs = λ l o is i h. receiving _ (k.inputs l o (sym (links l) ∙ is) i h);
        inputs_apart = λ j a b o q e f. k.inputs_apart j a b o q (sym (links a) ∙ e) (sym (links b) ∙ f);
        outputs = sending;
        no_successor = none;
      }

  -- channels
  module _ (named named' : Seat → Name) (m m' : Machine) (waits : (w : ℕ) → named' (Waiting w) ≡ named (Waiting w))
      (engaged_to : (k : ℕ) → use_of s n k ≡ Engaged → use_of s' n k ≡ Engaged)
      (engaged_back : (k : ℕ) → use_of s' n k ≡ Engaged → use_of s n k ≡ Engaged)
      (halves : (c : ℕ) (side : Side) → s' (Half n c side) ≡ s (Half n c side))
      (reasons : (process : ℕ) → reason_of m'.control process ≡ reason_of m.control process)
      (size : length m'.store ≡ length m.store)
      (words : (c : ℕ) → word_place_break (length m.store) c ≡ None → use_at s n c ≡ Engaged
      → word_at m'.store c ≡ word_at m.store c) where
    pub channels_stay : ShowsChannels s n named m → ShowsChannels s' n named' m'
    channels_stay =
        channels_kept s s' n named named' m m' (record {
          waits = λ w c side buffer e. (reasons w ∙ e, waits w);
          waited = λ w c side buffer e. (sym (reasons w) ∙ e, waits w);
          engaged_to = engaged_to;
          engaged_back = engaged_back;
          halves = halves;
          size = size;
          words = words;
        })

-- what asks at a link, where those that offer there have the same names
pub input_renamed : (named named' : Seat → Name) (o : Option Offer) (v v' : Value)
    → ((e : Offer) → o ≡ Some e → named' (Waiting e.wdesc) ≡ named (Waiting e.wdesc)) → v' ≡ v → IsInput named o v
    → IsInput named' o v'
input_renamed named named' None v v' h e (l, f, g) = (l, e ∙ f, g)
input_renamed named named' (Some o) v v' h e f =
    e ∙ f ∙ ap (λ y. IsLink (Offered (record { process = y; buffer = buffer_of o }))) (sym (h o refl))

-- a link
pub link_renamed : (s s' : State) (n : ℕ) (named named' : Seat → Name) (sent : ℕ → Option Pending) (node node' : Node)
    (l : ℕ)
    → ((e : Offer) → ((link_end node.machine.control l).input ≡ Some e)
    ⊎ ((link_end node.machine.control l).output ≡ Some e) → named' (Waiting e.wdesc) ≡ named (Waiting e.wdesc))
    → ((side : Side) → s' (LinkHalf (end_at n l) side) ≡ s (LinkHalf (end_at n l) side))
    → s' (Unfinished (end_at n l)) ≡ s (Unfinished (end_at n l))
    → ((x : Name) → unfired (input_at s n l) ≡ Some x → descriptor_at s' n x ≡ descriptor_at s n x)
    → link_end node'.machine.control l ≡ link_end node.machine.control l → was_copied node' l ≡ was_copied node l
    → ShowsLink s n named sent node l → ShowsLink s' n named' sent node' l
link_renamed s s' n named named' sent node node' l waits halves flag descriptors same copied k =
    record {
      input = subst (λ (e : LinkEnd). IsInput named' e.input (s' (LinkHalf (end_at n l) Input))) (sym same)
          (input_renamed named named' (link_end node.machine.control l).input _ _ (λ e f. waits e (inl f))
          (halves Input)
          k.input);
      output = halves Output ∙ k.output;
      unfinished = flag ∙ k.unfinished;
      offered = λ o e. (let f : (link_end node.machine.control l).output ≡ Some o =
          sym (ap (λ (e : LinkEnd). e.output) same) ∙ e in
          k.offered o f
          ∙ ap (λ b. Some (record { request = request_of named o; copied = b })) (sym copied)
          ∙ ap (λ y. Some (record {
            request = record { process = y; buffer = buffer_of o };
            copied = was_copied node' l;
          })) (sym (waits o (inr f))));
      fresh = λ e. copied ∙ k.fresh (sym (ap (λ (e : LinkEnd). e.output) same) ∙ e);
      unnoticed = λ o e. ap (λ (e : LinkEnd). e.noticed) same
          ∙ k.unnoticed o (sym (ap (λ (e : LinkEnd). e.input) same) ∙ e);
      remembered = λ e. ap (λ (e : LinkEnd). e.remembered) same
          ∙ k.remembered (sym (ap (λ (e : LinkEnd). e.noticed) same) ∙ e)
          ∙ sym (remembered_stays s s' n l (ap link_in (halves Input)) descriptors);
      forgotten = λ e. ap (λ (e : LinkEnd). e.remembered) same
          ∙ k.forgotten (sym (ap (λ (e : LinkEnd). e.noticed) same) ∙ e);
      fired = λ x e. ap (λ (e : LinkEnd). e.noticed) same ∙ k.fired x (sym (halves Input) ∙ e);
      pending = λ p e f. (let o = k.pending p e f in (o.0, ap (λ (e : LinkEnd). e.output) same ∙ o.1));
    }

pub link_stays : (s s' : State) (n : ℕ) (named named' : Seat → Name) (sent : ℕ → Option Pending) (node node' : Node)
    (l : ℕ) → ((w : ℕ) → named' (Waiting w) ≡ named (Waiting w))
    → ((side : Side) → s' (LinkHalf (end_at n l) side) ≡ s (LinkHalf (end_at n l) side))
    → s' (Unfinished (end_at n l)) ≡ s (Unfinished (end_at n l))
    → ((x : Name) → unfired (input_at s n l) ≡ Some x → descriptor_at s' n x ≡ descriptor_at s n x)
    → link_end node'.machine.control l ≡ link_end node.machine.control l → was_copied node' l ≡ was_copied node l
    → ShowsLink s n named sent node l → ShowsLink s' n named' sent node' l
link_stays s s' n named named' sent node node' l waits =
    link_renamed s s' n named named' sent node node' l (λ e f. waits e.wdesc)
