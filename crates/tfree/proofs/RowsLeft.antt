-- What is left in the rings, node by node.
use Rattle.std.proofs.Common.{◌≡◌, ◌≢◌, ℕ, ◌+◌, ◌<◌, sym, ap, ◌∙◌, arith, List, [], ◌∷◌, ◌++◌, length, get_or}
use Rattle.std.proofs.Common.{set, map, Option, None, ◌⊎◌, inl, inr, length-append}
use Rattle.std.specs.Prelude.{option_map, slice_set, slice_index_or}
use Rattle.std.proofs.lemmas.Bool.{cases_eq}
use Rattle.std.proofs.lemmas.List.{get_or-set_other}
use Rattle.std.proofs.lemmas.List.Elements.{All-push}
use Rattle.std.proofs.Math.ListN.{get_or-append}
use Rattle.std.proofs.Math.Seq.{get_or-append_seam, map-set_same}
use Rattle.tplan.specs.declared.plan.Wire.{Wire}
use Rattle.tplan.specs.Wires.{end_at}
use Rattle.tnet.specs.Net.{empty_inbox}
use Rattle.tnet.specs.declared.inbox.Inbox.{Inbox}
use Rattle.tfree.specs.Drained.{IsLeftAt, AreLeftAt}
use Rattle.tfree.specs.Slots.{slot_at, with_slot, map_slots}
use Rattle.tfree.specs.Views.{InView, OutView}
use Rattle.tfree.proofs.LinkSlots.{slot-map}

module _ {A B : Type 0} (f : A → B) (rows : List (List (Option A))) (n : ℕ) where
  -- a slot is set that looks like what stood there
  pub slots_same : (l : ℕ) (slot x : Option A) → slot ≡ get_or (slice_index_or rows n []) l slot
      → option_map f x ≡ option_map f slot → map_slots f (with_slot n l x rows) ≡ map_slots f rows
  slots_same l slot x is h =
      map-set_same (map (option_map f)) rows n (set (get_or rows n []) l x) []
      (map-set_same (option_map f) (get_or rows n []) l x slot (h ∙ ap (option_map f) is))

  -- a row is set, and what is seen of another stays
  pub other_row : (row : List (Option A)) (m l : ℕ) → m ≢ n
      → slot_at (map_slots f (slice_set rows n row)) m l ≡ slot_at (map_slots f rows) m l
  other_row row m l d =
      slot-map f (slice_set rows n row) m l
      ∙ ap (λ (r : List (Option A)). option_map f (get_or r l None)) (get_or-set_other rows n m row [] d)
      ∙ sym (slot-map f rows m l)

-- one node more
pub left_more : (wires : List Wire) (ins : List (List (Option InView))) (outs : List (List (Option OutView))) (n : ℕ)
    (inboxes : List (List Inbox)) (left : List Inbox) → length left ≡ 4 → AreLeftAt wires ins outs n inboxes
    → ((l : ℕ) → l < 4 → IsLeftAt wires (slot_at ins n l) outs (end_at n l) (slice_index_or left l empty_inbox))
    → AreLeftAt wires ins outs (n + 1) (inboxes ++ left ∷ [])
left_more wires ins outs n inboxes left four was here =
    record {
      rows = record {
        count = length-append inboxes (left ∷ []) ∙ ap (λ (k : ℕ). k + 1) was.rows.count;
        four = All-push (λ (row : List Inbox). length row ≡ 4) inboxes left was.rows.four four;
      };
      each = λ m l b c. each m l b c (cases_eq m n);
    }
  where
    each : (m l : ℕ) → m < n + 1 → l < 4 → (m ≡ n) ⊎ (m ≢ n)
        → IsLeftAt wires (slot_at ins m l) outs (end_at m l)
        (slice_index_or (slice_index_or (inboxes ++ left ∷ []) m []) l empty_inbox)
    each m l b c (inl q) =
        let at : get_or (inboxes ++ left ∷ []) n [] ≡ left =
        ap (λ (k : ℕ). get_or (inboxes ++ left ∷ []) k []) (sym was.rows.count)
        ∙ get_or-append_seam inboxes left [] [] in
        rw (q, at) (here l c)
    each m l b c (inr d) =
        let below : m < n = omega (arith, b, d) in
        let at : get_or (inboxes ++ left ∷ []) m [] ≡ get_or inboxes m [] =
        get_or-append inboxes (left ∷ []) [] m (omega (arith, below, was.rows.count)) in
        rw at (was.each m l below c)
