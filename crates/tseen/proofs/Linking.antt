-- The store after a process joined a queue: only the link of the process before it changed.
use Rattle.std.proofs.Common.{◌≡◌, ℕ, ◌+◌, ◌<◌, ◌≤◌, ◌/◌, refl, sym, ap, subst, ◌∙◌, length, get_or, Contains}
use Rattle.std.proofs.Common.{Bool, true, false, cond, Option, Some, None, arith, ◌⊎◌, inl, inr}
use Rattle.std.specs.Prelude.{◌&&◌, slice_range}
use Rattle.std.specs.Int.{w32, from_le_bytes}
use Rattle.std.proofs.lemmas.Bool.{cases_eq}
use Rattle.std.proofs.lemmas.List.{ext_get_or}
use Rattle.std.proofs.lemmas.List.Elements.{All-contains}
use Rattle.tword.specs.Words.{word_below}
use Rattle.tword.specs.Stores.{Store, place, shown, word_at, with_word}
use Rattle.tword.specs.Claims.{Claims, has_saved}
use Rattle.tword.specs.Actions.{is_slot}
use Rattle.tproc.specs.Machine.{Control, Machine, descheduled}
use Rattle.tproc.specs.Placement.{IsPlaced, IsWord, IsWorkspace}
use Rattle.tproc.specs.ProcessStatus.{queue}
use Rattle.tproc.specs.Queues.{last_of, link_word}
use Rattle.tproc.proofs.WordsApart.{LiesWord, length-with_word}
use Rattle.tseen.proofs.Added.{linked}
use Rattle.tseen.proofs.Adding.{last_descheduled}
use Rattle.tseen.proofs.Built.{lies_below}
use Rattle.tseen.proofs.Cells.{range-at, range-length}
use Rattle.tseen.proofs.Saving.{below}
use Rattle.tseen.proofs.Yielding.{other_cell_stays}

-- words whose cells are the same
pub same_word_at : (store store' : Store) (a : ℕ) → place a + 4 ≤ length store → length store' ≡ length store
    → ((j : ℕ) → place a ≤ j → j < place a + 4 → get_or store' j None ≡ get_or store j None)
    → word_at store' a ≡ word_at store a
same_word_at store store' a within size same =
    ap (λ (xs : Store). from_le_bytes w32 (shown xs))
    (ext_get_or None (slice_range store' (place a) (place a + 4)) (slice_range store (place a) (place a + 4))
    (range-length store' (place a) 4 (omega (arith, within, size)) ∙ sym (range-length store (place a) 4 within))
    (λ i h.
    let small : i < 4 = omega (arith, range-length store' (place a) 4 (omega (arith, within, size)), h) in
    range-at store' (place a) 4 i small ∙ same (place a + i) (omega arith) (omega (arith, small))
    ∙ sym (range-at store (place a) 4 i small)))

-- a cell lies in the link of a process that is queued or waits
pub record IsLinkCell (m : Control) (j : ℕ) : Type 0 where
  pub workspace : ℕ
  pub there : Contains (descheduled m) workspace
  pub word : j / 4 ≡ below workspace 2

-- the saved words lie in the memory
module _ (m : Machine) (placed : IsPlaced m) where
  pub lies_saved : (v k : ℕ) → Contains (descheduled m.control) v → (1 ≤ k) × (k ≤ 3)
      → LiesWord (length m.store) (word_below v k)
  lies_saved v k h b =
      lies_below (length m.store) v k placed.claimed.size
      (All-contains (IsWorkspace (length m.store)) (descheduled m.control) v placed.claimed.saved h)
      (All-contains IsWord (descheduled m.control) v placed.workspaces h) b

module _ (m : Machine) (placed : IsPlaced m) (first : Store) (same : length first ≡ length m.store) (claims : Claims)
    (level w : ℕ) where
  lies_link : (v : ℕ) → last_of (queue m.control level) ≡ Some v → LiesWord (length first) (word_below v 2)
  lies_link v e =
      subst (λ z. LiesWord z (word_below v 2)) (sym same)
      (lies_saved m placed v 2 (last_descheduled m.control level v e) ((omega arith), (omega arith)))

  -- the store after it
  abbrev pub after : Store
  after = linked claims (last_of (queue m.control level)) w first

  pub linked_size : length after ≡ length first
  linked_size = by (last_of (queue m.control level)) refl
    where
      by : (o : Option ℕ) → last_of (queue m.control level) ≡ o → length (linked claims o w first) ≡ length first
      by None e = refl
      by (Some v) e = of (is_slot link_word && has_saved claims v)
        where
          of : (t : Bool) → length (cond t (with_word first (word_below v link_word) w) first) ≡ length first
          of true = length-with_word first (word_below v 2) w 0 (lies_link v e)
          of false = refl

  pub linked_cell : (j : ℕ) → (get_or after j None ≡ get_or first j None) ⊎ IsLinkCell m.control j
  linked_cell j = by (last_of (queue m.control level)) refl
    where
      by : (o : Option ℕ) → last_of (queue m.control level) ≡ o
          → (get_or (linked claims o w first) j None ≡ get_or first j None) ⊎ IsLinkCell m.control j
      by None e = inl refl
      by (Some v) e = of (cases_eq (j / 4) (below v 2)) (is_slot link_word && has_saved claims v)
        where
          of : (j / 4 ≡ below v 2) ⊎ (j / 4 ≡ below v 2 → ⊥) → (t : Bool)
              → (get_or (cond t (with_word first (word_below v link_word) w) first) j None ≡ get_or first j None)
              ⊎ IsLinkCell m.control j
          of (inl f) t =
              inr (record { workspace = v; there = last_descheduled m.control level v e; word = f })
          of (inr f) true = inl (other_cell_stays first (word_below v 2) w j (lies_link v e) f)
          of (inr f) false = inl refl

  -- a word with no cell of a link stays
  pub linked_word : (a : ℕ) → LiesWord (length first) a → (IsLinkCell m.control (place a) → ⊥)
      → word_at after a ≡ word_at first a
  linked_word a l h =
      same_word_at first after a (omega (arith, l.within)) linked_size (λ j low high. by j low high (linked_cell j))
    where
      by : (j : ℕ) → place a ≤ j → j < place a + 4
          → (get_or after j None ≡ get_or first j None) ⊎ IsLinkCell m.control j
          → get_or after j None ≡ get_or first j None
      by j low high (inl e) = e
      by j low high (inr c) =
          let same_number : place a / 4 ≡ j / 4 = omega (arith, l.above, l.aligned, low, high) in
          absurd (h (record {
            workspace = c.workspace;
            there = c.there;
            word = same_number ∙ c.word;
          }))
