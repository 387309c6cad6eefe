-- The channel words of the inputs of links, and who has enabled them.
use Rattle.std.proofs.Common.{◌≡◌, ℕ, ◌+◌, ◌<◌, refl, sym, ap, ◌∙◌, true}
use Rattle.std.proofs.Common.{List, Option, Some, None, arith, subst, option_map, ◌⊎◌, inl, inr}
use Rattle.std.specs.Prelude.{slice_index_or, option_and_then}
use Rattle.std.proofs.lemmas.Bool.{and_from, lt-ltb, le-leb}
use Rattle.tword.specs.Stores.{Store}
use Rattle.tword.specs.Words.{most_neg}
use Rattle.tproc.specs.declared.channels.Side.TheVariants.{Input}
use Rattle.tproc.specs.declared.waiter.LinkEnd.{LinkEnd}
use Rattle.tproc.specs.LinkChannels.{is_link, link_of, quiet_end}
use Rattle.tplan.specs.Wires.{end_at}
use Rattle.tprocesses.specs.Places.{Name, LinkHalf}
use Rattle.tprocesses.specs.Values.{Link, Empty, Offered, Enabled, Awaited, Fired, link_in}
use Rattle.tseen.specs.Choices.{input_channel, input_at, enabler_on, link_enabler, unfired, enabler_at, HasEnabled}
use Rattle.tseen.specs.Choices.{descriptor_at, remembered_at, alternative_at, is_due, is_sent, ShowsChoices}
use Rattle.tseen.specs.Choices.{Alternative}
use Rattle.tseen.proofs.After.{State}

-- the channel word of an input is that of a link
pub input_is_link : (l : ℕ) → l < 4 → is_link (input_channel l) ≡ true
input_is_link l b =
    and_from _ _ (le-leb most_neg (input_channel l) (omega arith))
    (lt-ltb (input_channel l) (most_neg + 32) (omega arith))

-- and names its link
pub input_names_link : (l : ℕ) → l < 4 → link_of Input (input_channel l) ≡ l
input_names_link l b = omega arith

-- who is not made to go on by an input has enabled it
pub unfired_enabler : (h : Link) (x : Name) → unfired h ≡ Some x → link_enabler h ≡ Some x
unfired_enabler Empty x e = e
unfired_enabler (Offered q) x e = absurd (differ e)
  where
    differ : {y : Name} → None ≡ Some y → ⊥
    differ e = cc
unfired_enabler (Enabled y) x e = e
unfired_enabler (Awaited y) x e = e
unfired_enabler (Fired y) x e = absurd (differ e)
  where
    differ : {y : Name} → None ≡ Some y → ⊥
    differ e = cc

-- a link remembers the same process where its input stays, and the descriptor of who has enabled it
pub remembered_stays : (s s' : State) (n l : ℕ) → input_at s' n l ≡ input_at s n l
    → ((x : Name) → unfired (input_at s n l) ≡ Some x → descriptor_at s' n x ≡ descriptor_at s n x)
    → remembered_at s' n l ≡ remembered_at s n l
remembered_stays s s' n l same h =
    ap (λ (i : Link). option_and_then (descriptor_at s' n) (unfired i)) same ∙ by (unfired (input_at s n l)) h
  where
    by : (o : Option Name) → ((x : Name) → o ≡ Some x → descriptor_at s' n x ≡ descriptor_at s n x)
        → option_and_then (descriptor_at s' n) o ≡ option_and_then (descriptor_at s n) o
    by None h = refl
    by (Some x) h = h x refl

-- where nobody has enabled an input, its link remembers nobody
pub remembers_nobody : (s : State) (n l : ℕ) → unfired (input_at s n l) ≡ None → remembered_at s n l ≡ None
remembers_nobody s n l e = ap (option_and_then (descriptor_at s n)) e

-- the descriptor of who has enabled an input stays where alternatives do
pub descriptors_stay : (s s' : State) (n : ℕ) (links : List LinkEnd) (store : Store) → ShowsChoices s n links store
    → ((x : Name) → x.node ≡ n → alternative_at s' n x ≡ alternative_at s n x) → (l : ℕ) → l < 4
    → (x : Name) → unfired (input_at s n l) ≡ Some x → descriptor_at s' n x ≡ descriptor_at s n x
descriptors_stay s s' n links store h stands l b x e =
    ap (option_map (λ (a : Alternative). a.wptr + a.priority))
    (stands x (h.linked l x b (unfired_enabler (input_at s n l) x e)).home)

-- the inputs of links that are enabled stay so, and notice nothing
pub record KeepsInputs (s s' : State) (n : ℕ) (links links' : List LinkEnd) : Type 0 where
  pub inputs : (l : ℕ) → (input_at s' n l ≡ input_at s n l)
      ⊎ ((enabler_on s' n l ≡ None) × (enabler_on s n l ≡ None))
  pub noticed : (l : ℕ) (x : Name) → enabler_on s n l ≡ Some x
      → (slice_index_or links' l quiet_end).noticed ≡ (slice_index_or links l quiet_end).noticed

-- where all inputs and links stay
pub inputs_stay : (s s' : State) (n : ℕ) (links links' : List LinkEnd)
    → ((l : ℕ) → s' (LinkHalf (end_at n l) Input) ≡ s (LinkHalf (end_at n l) Input)) → links' ≡ links
    → KeepsInputs s s' n links links'
inputs_stay s s' n links links' halves same =
    record {
      inputs = λ l. inl (ap link_in (halves l));
      noticed = λ l x e. ap (λ (ls : List LinkEnd). (slice_index_or ls l quiet_end).noticed) same;
    }

module _ (s s' : State) (n : ℕ) (links links' : List LinkEnd) (k : KeepsInputs s s' n links links') where
  -- who has enabled an input has enabled it still
  pub enabler_stays : (l : ℕ) → enabler_on s' n l ≡ enabler_on s n l
  enabler_stays l = by (k.inputs l)
    where
      by : (input_at s' n l ≡ input_at s n l) ⊎ ((enabler_on s' n l ≡ None) × (enabler_on s n l ≡ None))
          → enabler_on s' n l ≡ enabler_on s n l
      by (inl e) = ap link_enabler e
      by (inr (e, f)) = e ∙ sym f

  -- and awaits it still
  pub awaited_stays : (l : ℕ) (x : Name) → input_at s n l ≡ Awaited x → input_at s' n l ≡ Awaited x
  awaited_stays l x h = by (k.inputs l)
    where
      differ : {y : Name} → Some y ≡ None → ⊥
      differ e = cc

      by : (input_at s' n l ≡ input_at s n l) ⊎ ((enabler_on s' n l ≡ None) × (enabler_on s n l ≡ None))
          → input_at s' n l ≡ Awaited x
      by (inl e) = e ∙ h
      by (inr (e, f)) = absurd (differ (sym (ap link_enabler h) ∙ f))

  -- a channel that somebody has enabled is ready as before, if the same is sent on it
  pub due_stays : (d : ℕ) (x : Name) → HasEnabled s n d x
      → (enabler_at s n d ≡ Some x → is_sent s' n d ≡ is_sent s n d) → is_due s' n links' d ≡ is_due s n links d
  due_stays d x (inl (internal, e)) sent = rw internal (sent e)
  due_stays d x (inr (l, b, is, e)) sent =
      subst (λ z. is_due s' n links' z ≡ is_due s n links z) (sym is)
      (rw (input_is_link l b, input_names_link l b) (k.noticed l x e))
