-- A process takes its half of a link: the states on the way.
use Rattle.std.proofs.Common.{◌≡◌, ℕ, ◌%◌, refl, sym, ap, subst, ◌∙◌, replicate, true, false}
use Rattle.std.proofs.Common.{None, not, Bool, ◌⊎◌, inl, inr, pos}
use Rattle.std.specs.Prelude.{◌==◌}
use Rattle.std.proofs.lemmas.Bool.{cases_eq}
use Rattle.std.proofs.lemmas.List.{length-replicate}
use Rattle.tword.specs.declared.breaks.Break.TheVariants.{Unaligned, WrongEnd, ZeroLength, LinkBusy}
use Rattle.tword.specs.declared.span.Span.{Span}
use Rattle.tword.specs.Stores.{Store}
use Rattle.tword.specs.Touches.{Reads, Writes, is_aligned}
use Rattle.tplan.specs.declared.plan.Plan.{Plan}
use Rattle.tproc.specs.declared.channels.Side.{Side}
use Rattle.tproc.specs.declared.channels.Side.TheVariants.{Input, Output}
use Rattle.tproc.specs.Channels.{mode_of}
use Rattle.tproc.specs.LinkChannels.{link_of, is_right_end}
use Rattle.tplan.specs.Wires.{end_at}
use Rattle.tprocesses.specs.Places.{Place, Name, WordAt, LinkHalf, Unfinished}
use Rattle.tprocesses.specs.Values.{Saved, Receiving, Context, Waits, Offered, Request, IsLink, link_in}
use Rattle.tprocesses.specs.Values.{word_in, flag_in, unknown}
use Rattle.tprocesses.specs.Changes.{Put}
use Rattle.tprocesses.specs.Parts.{Breaks, require}
use Rattle.tprocesses.specs.Touching.{Site, word_number, word_count, touch, replaced, save, kept}
use Rattle.tprocesses.specs.Standing.{forget}
use Rattle.tprocesses.specs.LinkMessages.{takes_link, lends, finished, is_empty}
use Rattle.tseen.proofs.After.{State, After, changed, after_bind, after_require}
use Rattle.tseen.proofs.Cells.{IsWhole, four_of}
use Rattle.tseen.proofs.Finished.{StandsNow, stands_then}
use Rattle.tseen.proofs.Saving.{below, other_number, IsSaved, save_then}
use Rattle.tseen.proofs.TakenBack.{AreCounted, count_words_then}
use Rattle.tseen.proofs.Writing.{AreWhole, IsSpanTouched, span_read, touch_then, replaced-length}
use Rattle.tseen.proofs.Written.{AreLaidFor, put_words_then}

not_zero : (b : Bool) → not b ≡ true → b ≡ false
not_zero false h = refl
not_zero true h = sym h

module _ (site : Site) (whole : site.size % 4 ≡ 0) (x : Name) (c : Context) (side : Side) (channel : ℕ)
    (buffer : Span) (v : State) (are : AreWhole site whole v) where
  abbrev n : ℕ
  n = site.number

  abbrev pub half : Place
  half = LinkHalf (end_at site.number (link_of side channel)) side

  abbrev pub request : Request
  request = record { process = x; buffer = buffer }

  abbrev pub taken : State
  taken = changed half (Put (IsLink (Offered request))) v

  -- its buffer is lent: the words of an output are in one pending output more, those of an input are in use for it
  abbrev pub IsLentBy : Side → Store → State → State → Type 0
  IsLentBy Output words v2 v3 = AreCounted site (pos 1) (word_number buffer.start) (word_count buffer) v2 v3
  IsLentBy Input words v2 v3 =
      AreLaidFor Receiving site.number (word_number buffer.start) (word_count buffer)
      (replaced buffer words (replicate buffer.size None)) v2 v3

  -- the process of the last output has gone on
  abbrev pub IsSettled : Side → Type 0
  IsSettled Output = flag_in (v (Unfinished (end_at site.number (link_of side channel)))) ≡ false
  IsSettled Input = Unit {0}

  -- the half was taken
  pub record IsAsked (s' : State) : Type 0 where
    pub aligned : is_aligned channel ≡ true
    pub right : is_right_end side channel ≡ true
    pub some : (buffer.size == 0) ≡ false
    pub empty : is_empty (link_in (v half)) ≡ true
    pub settled : IsSettled side
    pub v2 : State
    pub saved : IsSaved site whole taken v2 c.wptr kept
    pub v3 : State
    pub words : Store
    pub touched : IsSpanTouched v2 site.number site.size (mode_of side) buffer words
    pub lent : IsLentBy side words v2 v3
    pub waits : StandsNow site x (Waits (forget c)) v3 s'

  pub still_whole : (v2 : State) → IsSaved site whole taken v2 c.wptr kept → AreWhole site whole v2
  still_whole v2 k j h = by (cases_eq j (below c.wptr 1)) (cases_eq j (below c.wptr 2)) (cases_eq j (below c.wptr 3))
    where
      by : (j ≡ below c.wptr 1) ⊎ (j ≡ below c.wptr 1 → ⊥) → (j ≡ below c.wptr 2) ⊎ (j ≡ below c.wptr 2 → ⊥)
          → (j ≡ below c.wptr 3) ⊎ (j ≡ below c.wptr 3 → ⊥) → IsWhole (v2 (WordAt n j))
      by (inl e) b d =
          record {
            word = record { cells = unknown; used = Saved };
            is = ap (λ z. v2 (WordAt n z)) e ∙ k.set.one;
            four = refl;
          }
      by (inr a) (inl e) d =
          record {
            word = record { cells = unknown; used = Saved };
            is = ap (λ z. v2 (WordAt n z)) e ∙ k.set.two;
            four = refl;
          }
      by (inr a) (inr b) (inl e) =
          record {
            word = record { cells = (word_in (v (WordAt n (below c.wptr 3)))).cells; used = Saved };
            is = ap (λ z. v2 (WordAt n z)) e ∙ k.set.three;
            four = four_of (v (WordAt n (below c.wptr 3)))
                (subst (λ z. IsWhole (v (WordAt n z))) e (are j h));
          }
      by (inr a) (inr b) (inr d) =
          subst IsWhole (sym (k.set.rest (WordAt n j) (other_number n c.wptr j a b d))) (are j h)

  lends_then : (v2 : State) (whole2 : AreWhole site whole v2) (Q : Unit {0} → State → Type 0)
      → ((words : Store) (v3 : State) → IsSpanTouched v2 site.number site.size (mode_of side) buffer words
      → IsLentBy side words v2 v3 → Q tt v3) → After (lends side site buffer) v2 Q
  lends_then v2 whole2 Q h = by side h
    where
      by : (side : Side) → ((words : Store) (v3 : State)
          → IsSpanTouched v2 site.number site.size (mode_of side) buffer words → IsLentBy side words v2 v3 → Q tt v3)
          → After (lends side site buffer) v2 Q
      by Output h =
          after_bind (touch site Reads buffer) _ v2 Q (touch_then site whole Reads buffer v2 _ whole2 (λ words t.
          count_words_then site (pos 1) (word_count buffer) (word_number buffer.start) v2 Q (λ v3 k. h words v3 t k)))
      by Input h =
          after_bind (touch site Writes buffer) _ v2 Q (touch_then site whole Writes buffer v2 _ whole2 (λ words t.
          put_words_then site Receiving (word_count buffer) (word_number buffer.start)
          (replaced buffer words (replicate buffer.size None)) v2 Q
          (replaced-length v2 site.number site.size buffer words whole
          (span_read v2 site.number site.size Writes buffer words t) (replicate buffer.size None)
          (length-replicate buffer.size None)) (λ v3 k. h words v3 t k)))

  finished_then : (sd : Side) (Q : Unit {0} → State → Type 0) → (IsSettled sd → Q tt v)
      → After (finished sd (end_at site.number (link_of side channel))) v Q
  finished_then Output Q h =
      after_require (not (flag_in (v (Unfinished (end_at site.number (link_of side channel)))))) (Breaks LinkBusy) v Q
      (λ e. h (not_zero _ e))
  finished_then Input Q h = h tt

  pub takes_link_then : Plan → (Q : Unit {0} → State → Type 0) → ((s' : State) → IsAsked s' → Q tt s')
      → After (takes_link site x c side channel buffer) v Q
  takes_link_then p Q h =
      after_bind (require (is_aligned channel) (Breaks Unaligned)) _ v Q
      (after_require (is_aligned channel) (Breaks Unaligned) v _ (λ aligned.
      after_bind (require (is_right_end side channel) (Breaks WrongEnd)) _ v Q
      (after_require (is_right_end side channel) (Breaks WrongEnd) v _ (λ right.
      after_bind (require (not (buffer.size == 0)) (Breaks ZeroLength)) _ v Q
      (after_require (not (buffer.size == 0)) (Breaks ZeroLength) v _ (λ some.
      after_bind (require (is_empty (link_in (v half))) (Breaks LinkBusy)) _ v Q
      (after_require (is_empty (link_in (v half))) (Breaks LinkBusy) v _ (λ empty.
      after_bind (finished side (end_at site.number (link_of side channel))) _ v Q (finished_then side _ (λ settled.
      after_bind (save site c.wptr kept) _ taken Q
      (save_then site whole c.wptr kept taken _ (λ v2 saved.
      after_bind (lends side site buffer) _ v2 Q
      (lends_then v2 (still_whole v2 saved) _ (λ words v3 touched lent.
      stands_then site p x (Waits (forget c)) v3 Q (λ s' waits.
      h s' (record {
        aligned = aligned;
        right = right;
        some = not_zero (buffer.size == 0) some;
        empty = empty;
        settled = settled;
        v2 = v2;
        saved = saved;
        v3 = v3;
        words = words;
        touched = touched;
        lent = lent;
        waits = waits;
      }))))))))))))))))
