-- An internal channel copies where both its halves are taken: what its step tells, and what it leaves.
use Rattle.std.proofs.Common.{◌≡◌, ℕ, ◌%◌, refl, sym, ap, subst, ◌∙◌, Bool, true, false, None, ◌⊎◌, inl, inr}
use Rattle.std.specs.Prelude.{◌==◌, if◌then◌else◌}
use Rattle.std.proofs.lemmas.Bool.{eqb-true, cases_eq}
use Rattle.tword.specs.declared.span.Span.{Span}
use Rattle.tword.specs.declared.breaks.Break.TheVariants.{LengthMismatch}
use Rattle.tproc.specs.declared.channels.Side.{Side}
use Rattle.tproc.specs.declared.channels.Side.TheVariants.{Input, Output}
use Rattle.tproc.specs.Queues.{not_process}
use Rattle.tplan.specs.declared.plan.Plan.{Plan}
use Rattle.tprocesses.specs.Places.{Place, Name, WordAt, Standing, Half, same_name, same_place}
use Rattle.tprocesses.specs.Values.{Nobody, TakenBy, Value, Engaged, Context, Waits, Rests, Request, IsWord, IsStand}
use Rattle.tprocesses.specs.Values.{IsHalf, half_in}
use Rattle.tprocesses.specs.Values.{stand_in}
use Rattle.tprocesses.specs.Changes.{Change, Put, free_word}
use Rattle.tprocesses.specs.Parts.{Breaks, WordInUse, require}
use Rattle.tprocesses.specs.Touching.{Site, word_number, word_for, same_use}
use Rattle.tprocesses.specs.Performing.{copied}
use Rattle.tprocesses.specs.Standing.{wakes, ready}
use Rattle.tprocesses.specs.ChannelMessages.{meet_if, channel_step}
use Rattle.tseen.proofs.After.{State, changed, After, after_bind, after_require}
use Rattle.tseen.proofs.Cells.{use_of, IsWhole}
use Rattle.tseen.proofs.Written.{is_word_of, changed_there, changed_word, changed_else}
use Rattle.tseen.proofs.Writing.{IsCopied, copied_then, AreWhole}
use Rattle.tseen.proofs.Finished.{is_stand_of, StandsNow, stands_then, place_itself}
use Rattle.tseen.proofs.HalfTaken.{is_half_of}
use Rattle.tseen.proofs.Taken.{opposite}

-- the bytes that a message has, and where they go, by the side of the process that came second
abbrev pub source_of : Side → (own other : Request) → Span
source_of Input own other = other.buffer
source_of Output own other = own.buffer

abbrev pub target_of : Side → (own other : Request) → Span
target_of Input own other = own.buffer
target_of Output own other = other.buffer

-- a context of a process that was woken
abbrev pub woken : Context → Context
woken c = record c { lent = None }

-- a process is woken that waits
wakes_then : (site : Site) → Plan → (x : Name) (c : Context) (s : State) (Q : Unit {0} → State → Type 0)
    → s (Standing x) ≡ IsStand (Waits c) → ((t : State) → StandsNow site x (Rests (woken c)) s t → Q tt t)
    → After (wakes x None) s Q
wakes_then site p x c s Q e h =
    subst (λ (v : Value). After (ready (stand_in v) x None) s Q) (sym e)
    (stands_then site p x (Rests (woken c)) s Q h)

module _ (site : Site) (whole : site.size % 4 ≡ 0) (p : Plan) (channel : ℕ) (side : Side) (own other : Request)
    (cx cy : Context) (v : State) where
  abbrev n : ℕ
  n = site.number

  abbrev k : ℕ
  k = word_number channel

  abbrev x : Name
  x = own.process

  abbrev y : Name
  y = other.process

  -- the channel word names no process
  abbrev freeing : Change
  freeing = Put (IsWord (free_word not_process))

  abbrev pub freed : State
  freed = changed (WordAt n k) freeing v

  -- the halves are free
  abbrev emptied : State → State
  emptied t =
      changed (Half n channel Output) (Put (IsHalf Nobody)) (changed (Half n channel Input) (Put (IsHalf Nobody)) t)

  -- what has to stand there
  pub record AreThere : Type 0 where
    pub words : AreWhole site whole v
    pub own_half : v (Half n channel side) ≡ IsHalf (TakenBy own)
    pub other_half : v (Half n channel (opposite side)) ≡ IsHalf (TakenBy other)
    pub own_waits : v (Standing x) ≡ IsStand (Waits cx)
    pub other_waits : v (Standing y) ≡ IsStand (Waits cy)
    pub apart : same_name x y ≡ false
    pub apart_back : same_name y x ≡ false

  -- the two processes have met
  pub record HaveMet (t : State) : Type 0 where
    pub sizes : other.buffer.size ≡ own.buffer.size
    pub copy : State
    pub copies : IsCopied site whole freed copy (source_of side own other) (target_of side own other)
    pub own_rests : t (Standing x) ≡ IsStand (Rests (woken cx))
    pub other_rests : t (Standing y) ≡ IsStand (Rests (woken cy))
    pub halves : (a : Side) → t (Half n channel a) ≡ IsHalf Nobody
    pub words : (i : ℕ) → t (WordAt n i) ≡ copy (WordAt n i)
    pub others : (q : Place) → is_word_of n q ≡ false → is_stand_of x q ≡ false → is_stand_of y q ≡ false
        → is_half_of n channel Input q ≡ false → is_half_of n channel Output q ≡ false → t q ≡ v q

  freed_whole : AreWhole site whole v → AreWhole site whole freed
  freed_whole h i l = by (cases_eq k i)
    where
      here : IsWhole (freed (WordAt n k))
      here = record { word = free_word not_process; is = changed_there n k freeing v; four = refl }

      by : (k ≡ i) ⊎ (k ≡ i → ⊥) → IsWhole (freed (WordAt n i))
      by (inl e) = subst (λ j. IsWhole (freed (WordAt n j))) e here
      by (inr e) = subst IsWhole (sym (changed_word n k freeing v i e)) (h i l)

  emptied_half : (t : State) (a : Side) → emptied t (Half n channel a) ≡ IsHalf Nobody
  emptied_half t Output = rw (place_itself p (Half n channel Output)) refl
  emptied_half t Input =
      rw (place_itself p (Half n channel Input)) (of (same_place (Half n channel Output) (Half n channel Input)))
    where
      of : (b : Bool) → (if b then IsHalf Nobody else IsHalf Nobody) ≡ IsHalf Nobody
      of true = refl
      of false = refl

  emptied_else : (t : State) (q : Place) → is_half_of n channel Input q ≡ false
      → is_half_of n channel Output q ≡ false → emptied t q ≡ t q
  emptied_else t q a b = rw (b, a) refl

  -- two processes are woken, one after another
  ends : (h : AreThere) → other.buffer.size ≡ own.buffer.size → (copy t t' : State)
      → IsCopied site whole freed copy (source_of side own other) (target_of side own other)
      → t' (Standing x) ≡ IsStand (Rests (woken cx)) → t' (Standing y) ≡ IsStand (Rests (woken cy))
      → ((q : Place) → is_stand_of x q ≡ false → is_stand_of y q ≡ false → t' q ≡ copy q) → HaveMet (emptied t')
  ends h sizes copy t t' copies a b others =
      record {
        sizes = sizes;
        copy = copy;
        copies = copies;
        own_rests = a;
        other_rests = b;
        halves = emptied_half t';
        words = λ i. others (WordAt n i) refl refl;
        others = λ q word e f i g.
            emptied_else t' q i g ∙ others q e f ∙ copies.written.keeps.others q word
            ∙ changed_else n k freeing v q word;
      }

  -- a copy leaves each process where it stood
  stands_before : (copy : State) → ((r : Place) → is_word_of n r ≡ false → copy r ≡ freed r) → (z : Name) (d : Context)
      → v (Standing z) ≡ IsStand (Waits d) → copy (Standing z) ≡ IsStand (Waits d)
  stands_before copy others z d f =
      others (Standing z) refl ∙ changed_else n k freeing v (Standing z) refl ∙ f

  meet_then : (h : AreThere) (Q : Unit {0} → State → Type 0) → ((t : State) → HaveMet t → Q tt t)
      → (a : Side) → a ≡ side → After (channel_step channel site) v Q
  meet_then h Q q Input e =
      subst (λ (i : Value). After (meet_if site channel (half_in i) (half_in (v (Half n channel Output)))) v Q)
      (sym (ap (λ z. v (Half n channel z)) e ∙ h.own_half))
      (subst (λ (i : Value). After (meet_if site channel (TakenBy own) (half_in i)) v Q)
      (sym (ap (λ z. v (Half n channel z)) (ap opposite e) ∙ h.other_half))
      (after_bind (require (own.buffer.size == other.buffer.size) (Breaks LengthMismatch)) _ v Q
      (after_require (own.buffer.size == other.buffer.size) (Breaks LengthMismatch) v _ (λ sizes.
      after_bind (word_for site Engaged k) _ v Q
      (after_bind (require (same_use (use_of v n k) Engaged) WordInUse) _ v _
      (after_require (same_use (use_of v n k) Engaged) WordInUse v _ (λ engaged.
      after_bind (copied site other.buffer own.buffer) _ freed Q
      (copied_then site whole other.buffer own.buffer freed _ (eqb-true _ _ sizes) (freed_whole h.words) (λ copy cs.
      after_bind (wakes x None) _ copy Q (wakes_then site p x cx copy _ (stands_before copy cs.written.keeps.others x
      cx h.own_waits) (λ t ts.
      after_bind (wakes y None) _ t Q (wakes_then site p y cy t _
      (ts.others (Standing y) h.apart ∙ stands_before copy cs.written.keeps.others y cy h.other_waits) (λ t' ts'.
      q (emptied t') (ends h (sym (eqb-true _ _ sizes)) copy t t'
      (subst (λ z. IsCopied site whole freed copy (source_of z own other) (target_of z own other)) e cs)
      (ts'.others (Standing x) h.apart_back ∙ ts.is) ts'.is
      (λ r a b. ts'.others r b ∙ ts.others r a)))))))))))))))
  meet_then h Q q Output e =
      subst (λ (i : Value). After (meet_if site channel (half_in (v (Half n channel Input))) (half_in i)) v Q)
      (sym (ap (λ z. v (Half n channel z)) e ∙ h.own_half))
      (subst (λ (i : Value). After (meet_if site channel (half_in i) (TakenBy own)) v Q)
      (sym (ap (λ z. v (Half n channel z)) (ap opposite e) ∙ h.other_half))
      (after_bind (require (other.buffer.size == own.buffer.size) (Breaks LengthMismatch)) _ v Q
      (after_require (other.buffer.size == own.buffer.size) (Breaks LengthMismatch) v _ (λ sizes.
      after_bind (word_for site Engaged k) _ v Q
      (after_bind (require (same_use (use_of v n k) Engaged) WordInUse) _ v _
      (after_require (same_use (use_of v n k) Engaged) WordInUse v _ (λ engaged.
      after_bind (copied site own.buffer other.buffer) _ freed Q
      (copied_then site whole own.buffer other.buffer freed _ (eqb-true _ _ sizes) (freed_whole h.words) (λ copy cs.
      after_bind (wakes y None) _ copy Q (wakes_then site p y cy copy _ (stands_before copy cs.written.keeps.others y
      cy h.other_waits) (λ t ts.
      after_bind (wakes x None) _ t Q (wakes_then site p x cx t _
      (ts.others (Standing x) h.apart_back ∙ stands_before copy cs.written.keeps.others x cx h.own_waits) (λ t' ts'.
      q (emptied t') (ends h (eqb-true _ _ sizes) copy t t'
      (subst (λ z. IsCopied site whole freed copy (source_of z own other) (target_of z own other)) e cs)
      ts'.is (ts'.others (Standing y) h.apart ∙ ts.is)
      (λ r a b. ts'.others r a ∙ ts.others r b)))))))))))))))

  pub channel_then : AreThere → (Q : Unit {0} → State → Type 0) → ((t : State) → HaveMet t → Q tt t)
      → After (channel_step channel site) v Q
  channel_then h Q q = meet_then h Q q side refl
