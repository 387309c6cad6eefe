-- What an action leaves of the first two saved words of each process: its writes spare them, and it sets one queue link
-- at most. One induction gives it for a run.
use Rattle.std.proofs.Common.{◌≡◌, ℕ, ◌+◌, ◌-◌, ◌<◌, ◌≤◌, ◌%◌, ◌^◌, refl, sym, ap, subst, cond, ◌∙◌, List, [], ◌∷◌}
use Rattle.std.proofs.Common.{length, take, Bool, true, false, ◌&&◌, Ok, Option, Some, None, unwrap_or, ◌⊎◌, inl, inr}
use Rattle.std.proofs.Common.{arith}
use Rattle.std.specs.Prelude.{◌==◌, nat_le}
use Rattle.std.specs.Int.{w32, from_le_bytes, to_le_bytes}
use Rattle.std.specs.List.{list_any}
use Rattle.std.proofs.lemmas.Bool.{cases_eq, both_ways, and_parts, and_from, or_parts, or_from, or_right, or_cases}
use Rattle.std.proofs.lemmas.Bool.{eqb-true, leb-true}
use Rattle.std.proofs.lemmas.List.{nil_from_length, append-nil, take-append-drop}
use Rattle.tword.specs.Words.{most_neg, word_below}
use Rattle.tword.specs.Stores.{Store, place, word_at, with_word, with_cells, as_cells, byte_at, cells}
use Rattle.tword.specs.declared.span.Span.{Span}
use Rattle.tword.specs.Claims.{Claims, overlap, overlaps_claim, saved_words, is_saved, has_saved, saving}
use Rattle.tword.specs.Touches.{Reads, Writes, is_inside, span_break, word_break, word_span, byte_span}
use Rattle.tword.specs.Touches.{deschedule_break, copy_break}
use Rattle.tword.specs.Actions.{Action, answer, breaks, requiring, unmet, touching_word, touching_byte, touching}
use Rattle.tword.specs.Actions.{writing_word, writing_byte, copying, descheduling, reading_saved, setting_saved}
use Rattle.tword.specs.Actions.{run_from, saved_word_at, with_saved_word, is_slot}
use Rattle.tword.proofs.Passing.{Passes, span_break-none, word_break-passes, inside_bounds, both_none}
use Rattle.tword.proofs.Hiding.{overlap-from, overlap_back}
use Rattle.tword.proofs.Blind.{Clear}
use Rattle.tword.proofs.Standing.{Stands, stands_self, with_cells-stands}
use Rattle.tword.proofs.Buffers.{stands_bytes}
use Rattle.tword.proofs.Laying.{length-cells}
use Rattle.tword.proofs.Leads.{passed, met}
use Rattle.tword.proofs.Descheduling.{deschedule-passes, saved_word-clear}
use Rattle.tproc.specs.ProcessStatus.{is_among}
use Rattle.tproc.specs.Queues.{iptr_word, link_word, state_word}
use Rattle.tproc.specs.Placement.{IsWorkspace}
use Rattle.tproc.proofs.SavedSets.{Sets}
use Rattle.tproc.proofs.ClaimGuards.{descheduled_aligned}
use Rattle.tproc.proofs.WordsApart.{LiesWord, length-with_word, other_word, word_set}

-- a queue link, where the link of one workspace was set
abbrev pub LinkIs : Option (ℕ × ℕ) → ℕ → Store → Store → Type 0
LinkIs None w s t = word_at t (word_below w link_word) ≡ word_at s (word_below w link_word)
LinkIs (Some x) w s t =
    (x.0 ≡ w → x.1 < 2 ^ 32 → word_at t (word_below w link_word) ≡ x.1)
    × ((x.0 ≡ w → ⊥) → word_at t (word_below w link_word) ≡ word_at s (word_below w link_word))

-- what a store leaves of another: the saved Iptr of each workspace that is watched, and its link except for the one
-- that was set
pub record Leaves (watched : List ℕ) (link : Option (ℕ × ℕ)) (s t : Store) : Type 0 where
  pub size : length t ≡ length s
  pub iptrs : (w : ℕ) → is_among w watched ≡ true
      → word_at t (word_below w iptr_word) ≡ word_at s (word_below w iptr_word)
  pub links : (w : ℕ) → is_among w watched ≡ true → LinkIs link w s t

pub leaves_self : (D : List ℕ) (s : Store) → Leaves D None s s
leaves_self D s = record { size = refl; iptrs = λ w h. refl; links = λ w h. refl }

link_then : (l : Option (ℕ × ℕ)) (w : ℕ) (s t t' : Store) → LinkIs l w s t
    → word_at t' (word_below w link_word) ≡ word_at t (word_below w link_word) → LinkIs l w s t'
link_then None w s t t' h e = e ∙ h
link_then (Some x) w s t t' h e = ((λ q b. e ∙ h.0 q b), (λ q. e ∙ h.1 q))

-- and still leaves where none of these words is written
pub leaves_then : (D : List ℕ) (l : Option (ℕ × ℕ)) (s t t' : Store) → Leaves D l s t → length t' ≡ length t
    → ((w k : ℕ) → is_among w D ≡ true → is_slot k ≡ true → (k ≡ state_word → ⊥)
    → word_at t' (word_below w k) ≡ word_at t (word_below w k)) → Leaves D l s t'
leaves_then D l s t t' h e same =
    record {
      size = e ∙ h.size;
      iptrs = λ w d. same w iptr_word d refl (λ q. omega (arith, q)) ∙ h.iptrs w d;
      links = λ w d. link_then l w s t t' (h.links w d) (same w link_word d refl (λ q. omega (arith, q)));
    }

-- the claims of an action, where the words of at least the watched workspaces are saved: they lie in the memory, and
-- apart from each other
pub record IsFine (n : ℕ) (watched : List ℕ) (c : Claims) : Type 0 where
  pub among : (w : ℕ) → is_among w watched ≡ true → has_saved c w ≡ true
  pub lies : (w : ℕ) → has_saved c w ≡ true → IsWorkspace n w
  pub apart : (v w : ℕ) → has_saved c v ≡ true → has_saved c w ≡ true → (v ≡ w → ⊥)
      → overlap (saved_words v) (saved_words w) ≡ false

-- what is apart from all saved words is apart from those of each workspace
unsaved_apart : (span : Span) (ws : List ℕ) (w : ℕ) → list_any (λ v. overlap span (saved_words v)) ws ≡ false
    → list_any (λ v. v == w) ws ≡ true → overlap span (saved_words w) ≡ false
unsaved_apart span [] w h k = cc
unsaved_apart span (v ∷ ws) w h k =
    let both : (overlap span (saved_words v) ≡ false) × (list_any (λ u. overlap span (saved_words u)) ws ≡ false) =
    or_parts _ _ h in
    by both.0 (unsaved_apart span ws w both.1) (or_cases _ _ k)
  where
    by : overlap span (saved_words v) ≡ false
        → (list_any (λ u. u == w) ws ≡ true → overlap span (saved_words w) ≡ false) → ((v == w) ≡ true)
        ⊎ (list_any (λ u. u == w) ws ≡ true) → overlap span (saved_words w) ≡ false
    by first rest (inl e) = subst (λ u. overlap span (saved_words u) ≡ false) (eqb-true _ _ e) first
    by first rest (inr e) = rest e

overlap_self : (span : Span) → 0 < span.size → overlap span span ≡ true
overlap_self span b = overlap-from span span b b (omega arith) (omega arith)

-- nothing is put
put_none : (t : Store) (a : ℕ) (new : Store) → length new ≡ 0 → with_cells t a new ≡ t
put_none t a new e =
    let f : new ≡ [] = nil_from_length new e in
    let h : place a + 0 ≡ place a = omega arith in
    rw (f, append-nil (take (place a) t), h, take-append-drop (place a) t) refl

-- cells that are put outside of some spans
put_stands : (spans : List (Option Span)) (t : Store) (a m : ℕ) (new : Store) → length new ≡ m → (m ≡ 0)
    ⊎ Clear (length t) spans (record { start = a; size = m }) → Stands spans t (with_cells t a new)
put_stands spans t a m new e (inl z) = rw (put_none t a new (e ∙ z)) (stands_self spans t)
put_stands spans t a m new e (inr c) = with_cells-stands spans t t a m new (stands_self spans t) e c

-- the cells that a copy reads are as many as it says
copied_length : (t : Store) (n from count : ℕ) (c : Claims) → length t ≡ n
    → span_break n c Reads (record { start = from; size = count }) ≡ None → length (cells t from count) ≡ count
copied_length t n from count c e h =
    by (inside_bounds n (record { start = from; size = count }) (span_break-none n c Reads _ h).inside)
  where
    by : (count ≡ 0) ⊎ ((most_neg ≤ from) × (from - most_neg + count ≤ n)) → length (cells t from count) ≡ count
    by (inl z) = let f : place from + count - place from ≡ 0 = omega arith in rw f (sym z)
    by (inr b) = length-cells t from count (omega (arith, e, b.1))

-- two words below one workspace are at different addresses
below_apart : (w j k : ℕ) → is_slot j ≡ true → is_slot k ≡ true → word_below w j ≡ word_below w k → j ≡ k
below_apart w j k h i e =
    let a : (nat_le 1 j ≡ true) × (nat_le j 3 ≡ true) = and_parts _ _ h in
    let b : (nat_le 1 k ≡ true) × (nat_le k 3 ≡ true) = and_parts _ _ i in
    omega (arith, leb-true _ _ a.0, leb-true _ _ a.1, leb-true _ _ b.0, leb-true _ _ b.1, e)

module _ (n : ℕ) (small : n ≤ 2 ^ 31) (D : List ℕ) where
  -- a workspace that is descheduled is not watched
  not_watched : (c : Claims) (w : ℕ) → IsFine n D c → deschedule_break n c w ≡ None → is_among w D ≡ false
  not_watched c w f h = by (is_among w D) refl
    where
      by : (b : Bool) → is_among w D ≡ b → is_among w D ≡ false
      by false e = e
      by true e =
          absurd (both_ways _
          (unsaved_apart (saved_words w) c.saved w (deschedule-passes n c w small h).unsaved (f.among w e))
          (overlap_self (saved_words w) (omega arith)))

  fine_saving : (c : Claims) (w : ℕ) → IsFine n D c → deschedule_break n c w ≡ None → IsFine n D (saving w c)
  fine_saving c w f h =
      record {
        among = λ v d. or_right (w == v) (has_saved c v) (f.among v d);
        lies = λ v d. lies v (or_cases _ _ d);
        apart = λ u v a b d. apart u v d (or_cases _ _ a) (or_cases _ _ b);
      }
    where
      p : Passes n c Writes (saved_words w)
      p = deschedule-passes n c w small h

      lies : (v : ℕ) → ((w == v) ≡ true) ⊎ (has_saved c v ≡ true) → IsWorkspace n v
      lies v (inl e) = subst (IsWorkspace n) (eqb-true _ _ e) (descheduled_aligned n c w h, p.inside, p.open_to_all)
      lies v (inr e) = f.lies v e

      new : (v : ℕ) → has_saved c v ≡ true → overlap (saved_words w) (saved_words v) ≡ false
      new v e = unsaved_apart (saved_words w) c.saved v p.unsaved e

      apart : (u v : ℕ) → (u ≡ v → ⊥) → ((w == u) ≡ true) ⊎ (has_saved c u ≡ true) → ((w == v) ≡ true)
          ⊎ (has_saved c v ≡ true) → overlap (saved_words u) (saved_words v) ≡ false
      apart u v d (inl a) (inl b) = absurd (d (sym (eqb-true w u a) ∙ eqb-true w v b))
      apart u v d (inl a) (inr b) =
          subst (λ x. overlap (saved_words x) (saved_words v) ≡ false) (eqb-true _ _ a) (new v b)
      apart u v d (inr a) (inl b) =
          subst (λ x. overlap (saved_words u) (saved_words x) ≡ false) (eqb-true _ _ b)
          (overlap_back (saved_words w) (saved_words u) (new u a))
      apart u v d (inr a) (inr b) = f.apart u v a b d

  module _ (c : Claims) (f : IsFine n D c) where
    -- a saved word lies in the memory, and apart from what its workspace's three are apart from
    word_clear : (spans : List (Option Span)) (w k : ℕ) → has_saved c w ≡ true → is_slot k ≡ true
        → list_any (overlaps_claim (saved_words w)) spans ≡ false → Clear n spans (word_span (word_below w k))
    word_clear spans w k h s apart = saved_word-clear spans n w k small (f.lies w h).1 s apart

    word_lies : (w k : ℕ) → has_saved c w ≡ true → is_slot k ≡ true → LiesWord n (word_below w k)
    word_lies w k h s =
        let b : Clear n [] (word_span (word_below w k)) = word_clear [] w k h s refl in
        let slots : (nat_le 1 k ≡ true) × (nat_le k 3 ≡ true) = and_parts _ _ s in
        let e : w % 4 ≡ 0 = eqb-true _ _ (f.lies w h).0 in
        record {
          above = b.above;
          within = b.within;
          aligned =
              omega (arith, e, leb-true _ _ slots.0, leb-true _ _ slots.1);
        }

    -- it is unchanged where cells are put apart from it
    word_stands : (t t' : Store) (w k : ℕ) → length t ≡ n → has_saved c w ≡ true → is_slot k ≡ true
        → Stands (Some (word_span (word_below w k)) ∷ []) t t'
        → word_at t' (word_below w k) ≡ word_at t (word_below w k)
    word_stands t t' w k e h s stands =
        let l : LiesWord n (word_below w k) = word_lies w k h s in
        ap (from_le_bytes w32)
        ((stands_bytes t t' (word_below w k) 4 stands l.above (omega (arith, l.within, e))).bytes 4 (omega arith))

    -- a span without a saved word is apart from it
    inside_clear : (spans : List (Option Span)) (span : Span) → is_inside n span ≡ true
        → list_any (overlaps_claim span) spans ≡ false → (span.size ≡ 0) ⊎ Clear n spans span
    inside_clear spans span inside apart = by (inside_bounds n span inside)
      where
        by : (span.size ≡ 0) ⊎ ((most_neg ≤ span.start) × (span.start - most_neg + span.size ≤ n)) → (span.size ≡ 0)
            ⊎ Clear n spans span
        by (inl e) = inl e
        by (inr b) = inr (record { above = b.0; within = b.1; apart = apart })

    unsaved_word : (span : Span) (w k : ℕ) → is_saved c span ≡ false → has_saved c w ≡ true → is_slot k ≡ true
        → overlap span (word_span (word_below w k)) ≡ false
    unsaved_word span w k unsaved h s =
        let whole : overlap (saved_words w) span ≡ false =
        overlap_back span (saved_words w) (unsaved_apart span c.saved w unsaved h) in
        let d : Clear n (Some span ∷ []) (word_span (word_below w k)) =
        word_clear (Some span ∷ []) w k h s (or_from _ _ whole refl) in
        overlap_back (word_span (word_below w k)) span (or_parts _ _ d.apart).0

    -- so cells that are put there leave the size and each saved word
    put_size : (t : Store) (span : Span) (new : Store) → length t ≡ n → is_inside n span ≡ true → length new ≡ span.size
        → length (with_cells t span.start new) ≡ length t
    put_size t span new e inside l =
        sym (put_stands [] t span.start span.size new l
        (subst (λ m. (span.size ≡ 0) ⊎ Clear m [] span) (sym e) (inside_clear [] span inside refl))).size

    put_word : (t : Store) (span : Span) (new : Store) → length t ≡ n → is_inside n span ≡ true
        → is_saved c span ≡ false → length new ≡ span.size
        → (w k : ℕ) → has_saved c w ≡ true → is_slot k ≡ true
        → word_at (with_cells t span.start new) (word_below w k) ≡ word_at t (word_below w k)
    put_word t span new e inside unsaved l w k h s =
        word_stands t (with_cells t span.start new) w k e h s
        (put_stands (Some (word_span (word_below w k)) ∷ []) t span.start span.size new l
        (subst (λ m. (span.size ≡ 0) ⊎ Clear m (Some (word_span (word_below w k)) ∷ []) span) (sym e)
        (inside_clear (Some (word_span (word_below w k)) ∷ []) span inside
        (or_from _ _ (unsaved_word span w k unsaved h s) refl))))

    pub put_leaves : (l : Option (ℕ × ℕ)) (first t : Store) (span : Span) (new : Store) → length t ≡ n
        → is_inside n span ≡ true → is_saved c span ≡ false → length new ≡ span.size
        → Leaves D l first t → Leaves D l first (with_cells t span.start new)
    put_leaves l first t span new e inside unsaved size h =
        leaves_then D l first t (with_cells t span.start new) h (put_size t span new e inside size)
        (λ w k d s _. put_word t span new e inside unsaved size w k (f.among w d) s)

    -- two saved words are at different addresses, unless they are the same
    addresses : (v j w k : ℕ) → has_saved c v ≡ true → is_slot j ≡ true → has_saved c w ≡ true → is_slot k ≡ true
        → (v ≡ w → j ≡ k → ⊥) → word_below v j ≡ word_below w k → ⊥
    addresses v j w k a h b i differs e = by (cases_eq v w)
      where
        by : (v ≡ w) ⊎ (v ≡ w → ⊥) → ⊥
        by (inl q) = differs q (below_apart w j k h i (subst (λ u. word_below u j ≡ word_below w k) q e))
        by (inr d) =
            let x : Clear n (Some (saved_words w) ∷ []) (word_span (word_below v j)) =
            word_clear (Some (saved_words w) ∷ []) v j a h (or_from _ _ (f.apart v w a b d) refl) in
            let o : overlap (saved_words w) (word_span (word_below v j)) ≡ false =
            overlap_back (word_span (word_below v j)) (saved_words w) (or_parts _ _ x.apart).0 in
            let y : Clear n (Some (word_span (word_below v j)) ∷ []) (word_span (word_below w k)) =
            word_clear (Some (word_span (word_below v j)) ∷ []) w k b i (or_from _ _ o refl) in
            let z : overlap (word_span (word_below w k)) (word_span (word_below v j)) ≡ false =
            (or_parts _ _ y.apart).0 in
            both_ways _ (subst (λ u. overlap (word_span (word_below w k)) (word_span u) ≡ false) e z)
            (overlap_self (word_span (word_below w k)) (omega arith))

    -- a saved word that is set leaves the size and each other one
    set_size : (t : Store) (v j x : ℕ) → length t ≡ n → length (with_saved_word t c v j x) ≡ length t
    set_size t v j x e = by (is_slot j && has_saved c v) refl
      where
        by : (b : Bool) → (is_slot j && has_saved c v) ≡ b
            → length (cond b (with_word t (word_below v j) x) t) ≡ length t
        by false h = refl
        by true h =
            let both : (is_slot j ≡ true) × (has_saved c v ≡ true) = and_parts _ _ h in
            length-with_word t (word_below v j) x (word_below v j)
            (subst (λ m. LiesWord m (word_below v j)) (sym e) (word_lies v j both.1 both.0))

    set_other : (t : Store) (v j x w k : ℕ) → length t ≡ n → has_saved c w ≡ true → is_slot k ≡ true
        → (v ≡ w → j ≡ k → ⊥) → word_at (with_saved_word t c v j x) (word_below w k) ≡ word_at t (word_below w k)
    set_other t v j x w k e a i differs = by (is_slot j && has_saved c v) refl
      where
        by : (b : Bool) → (is_slot j && has_saved c v) ≡ b
            → word_at (cond b (with_word t (word_below v j) x) t) (word_below w k) ≡ word_at t (word_below w k)
        by false h = refl
        by true h =
            let both : (is_slot j ≡ true) × (has_saved c v ≡ true) = and_parts _ _ h in
            other_word t (word_below v j) x (word_below w k) (rw e (word_lies v j both.1 both.0))
            (rw e (word_lies w k a i)) (addresses v j w k both.1 both.0 a i differs)

    set_leaves : (l : Option (ℕ × ℕ)) (first t : Store) (v j x : ℕ) → length t ≡ n → Leaves D l first t
        → (is_among v D ≡ false) ⊎ (j ≡ state_word) → Leaves D l first (with_saved_word t c v j x)
    set_leaves l first t v j x e h other =
        leaves_then D l first t (with_saved_word t c v j x) h (set_size t v j x e)
        (λ w k d s third. set_other t v j x w k e (f.among w d) s (differs w k d third other))
      where
        differs : (w k : ℕ) → is_among w D ≡ true → (k ≡ state_word → ⊥) → (is_among v D ≡ false) ⊎ (j ≡ state_word)
            → v ≡ w → j ≡ k → ⊥
        differs w k d third (inl unwatched) q _ = both_ways _ unwatched (subst (λ u. is_among u D ≡ true) (sym q) d)
        differs w k d third (inr q) _ r = third (sym r ∙ q)

    -- a queue link that is set is there
    set_there : (t : Store) (w j x : ℕ) → length t ≡ n → has_saved c w ≡ true → is_slot j ≡ true → x < 2 ^ 32
        → word_at (with_saved_word t c w j x) (word_below w j) ≡ x
    set_there t w j x e h s b =
        let whole : (is_slot j && has_saved c w) ≡ true = and_from _ _ s h in
        rw whole (word_set t (word_below w j) x (rw e (word_lies w j h s)) b)

    link_leaves : (first t : Store) (v x : ℕ) → length t ≡ n → Leaves D None first t
        → Leaves D (Some (v, x)) first (with_saved_word t c v link_word x)
    link_leaves first t v x e h =
        record {
          size = set_size t v link_word x e ∙ h.size;
          iptrs = λ w d. set_other t v link_word x w iptr_word e (f.among w d) refl (λ _ q. omega (arith, q))
              ∙ h.iptrs w d;
          links = λ w d. (
            (λ q b. subst (λ u. word_at (with_saved_word t c v link_word x) (word_below u link_word) ≡ x) q
                (set_there t v link_word x e (f.among v (subst (λ u. is_among u D ≡ true) (sym q) d)) refl b)),
            (λ q. set_other t v link_word x w link_word e (f.among w d) refl (λ r _. q r) ∙ h.links w d),
          );
        }

  -- the same holds for a run
  pub sets_run : {A : Type 0} (Q : Option (ℕ × ℕ) → A → Type 0) (x : Action A) (first old new : Store) (c : Claims)
      (l : Option (ℕ × ℕ)) (a : A) (s : Store)
      → length first ≡ n → length old ≡ n → IsFine n D c → Leaves D l first new → Sets D Q l x
      → run_from x old c new ≡ Ok (a, s) → (l' : Option (ℕ × ℕ)) × Q l' a × Leaves D l' first s
  unfolding copy_break
  sets_run {A} Q (answer x) first old new c l a s i e f h k r =
      let same : ◌≡◌ {A = A × Store} (x, new) (a, s) = cc in
      (l, subst (λ (p : A × Store). Q l p.0) same k, subst (λ (p : A × Store). Leaves D l first p.1) same h)
  sets_run Q (breaks b) first old new c l a s i e f h k r = cc
  sets_run Q (requiring t b next) first old new c l a s i e f h k r =
      let p : (unmet t b ≡ None) × (run_from next old c new ≡ Ok (a, s)) = passed _ _ _ r in
      sets_run Q next first old new c l a s i e f h (k (met t b p.0)) p.1
  sets_run Q (touching_word mode b next) first old new c l a s i e f h k r =
      let p : (word_break (length old) c mode b ≡ None) × (run_from (next (word_at old b)) old c new ≡ Ok (a, s)) =
      passed _ _ _ r in
      sets_run Q (next (word_at old b)) first old new c l a s i e f h (k (word_at old b)) p.1
  sets_run Q (touching_byte mode b next) first old new c l a s i e f h k r =
      let p : (span_break (length old) c mode (byte_span b) ≡ None)
      × (run_from (next (unwrap_or (byte_at old b) 0)) old c new ≡ Ok (a, s)) = passed _ _ _ r in
      sets_run Q (next (unwrap_or (byte_at old b) 0)) first old new c l a s i e f h (k (unwrap_or (byte_at old b) 0))
      p.1
  sets_run Q (touching mode span next) first old new c l a s i e f h k r =
      let p : (span_break (length old) c mode span ≡ None) × (run_from next old c new ≡ Ok (a, s)) = passed _ _ _ r in
      sets_run Q next first old new c l a s i e f h k p.1
  sets_run Q (writing_word b v next) first old new c l a s i e f h k r =
      let p : (word_break (length old) c Writes b ≡ None) × (run_from next old c (with_word new b v) ≡ Ok (a, s)) =
      passed _ _ _ r in
      let q : Passes n c Writes (word_span b) = word_break-passes n c Writes b (rw e at p.0) in
      sets_run Q next first old (with_word new b v) c l a s i e f
      (put_leaves c f l first new (word_span b) (as_cells (to_le_bytes w32 v)) (h.size ∙ i) q.inside q.unsaved refl
      h) k p.1
  sets_run Q (writing_byte b v next) first old new c l a s i e f h k r =
      let p : (span_break (length old) c Writes (byte_span b) ≡ None)
      × (run_from next old c (with_cells new b (as_cells (v % 256 ∷ []))) ≡ Ok (a, s)) = passed _ _ _ r in
      let q : Passes n c Writes (byte_span b) = span_break-none n c Writes (byte_span b) (rw e at p.0) in
      sets_run Q next first old (with_cells new b (as_cells (v % 256 ∷ []))) c l a s i e f
      (put_leaves c f l first new (byte_span b) (as_cells (v % 256 ∷ [])) (h.size ∙ i) q.inside q.unsaved refl h) k
      p.1
  sets_run Q (copying from to count next) first old new c l a s i e f h k r =
      let p : (copy_break (length old) c from to count ≡ None)
      × (run_from next old c (with_cells new to (cells new from count)) ≡ Ok (a, s)) = passed _ _ _ r in
      let q : (span_break n c Reads (record { start = from; size = count }) ≡ None)
      × (span_break n c Writes (record { start = to; size = count }) ≡ None) = both_none _ _ (rw e at p.0) in
      let t : Passes n c Writes (record { start = to; size = count }) =
      span_break-none n c Writes (record { start = to; size = count }) q.1 in
      sets_run Q next first old (with_cells new to (cells new from count)) c l a s i e f
      (put_leaves c f l first new (record { start = to; size = count }) (cells new from count) (h.size ∙ i) t.inside
      t.unsaved (copied_length new n from count c (h.size ∙ i) q.0) h) k p.1
  sets_run Q (descheduling w next) first old new c l a s i e f h k r =
      let p : (deschedule_break (length old) c w ≡ None) × (run_from next old (saving w c) new ≡ Ok (a, s)) =
      passed _ _ _ r in
      let q : deschedule_break n c w ≡ None = rw e at p.0 in
      sets_run Q next first old new (saving w c) l a s i e (fine_saving c w f q) h (k (not_watched c w f q)) p.1
  sets_run Q (reading_saved w j next) first old new c l a s i e f h k r =
      sets_run Q (next (saved_word_at old c w j)) first old new c l a s i e f h (k (saved_word_at old c w j)) r
  sets_run Q (setting_saved w j v next) first old new c l a s i e f h (inl k) r =
      sets_run Q next first old (with_saved_word new c w j v) c l a s i e f
      (set_leaves c f l first new w j v (h.size ∙ i) h (inl k.0)) k.1 r
  sets_run Q (setting_saved w j v next) first old new c l a s i e f h (inr (inl k)) r =
      sets_run Q next first old (with_saved_word new c w j v) c l a s i e f
      (set_leaves c f l first new w j v (h.size ∙ i) h (inr k.0)) k.1 r
  sets_run Q (setting_saved w j v next) first old new c l a s i e f h (inr (inr k)) r =
      sets_run Q next first old (with_saved_word new c w j v) c (Some (w, v)) a s i e f
      (subst (λ m. Leaves D (Some (w, v)) first (with_saved_word new c w m v)) (sym k.0)
      (link_leaves c f first new w v (h.size ∙ i) (subst (λ o. Leaves D o first new) k.1 h))) k.2 r
