-- Claims agree with a control after each change of its links.
use Rattle.std.proofs.Common.{◌≡◌, ◌∙◌, ℕ, zero, suc, refl, sym, ap, false, List, [], ◌∷◌, map, set, get_or, Some, None}
use Rattle.std.proofs.Common.{Option}
use Rattle.std.specs.List.{list_any}
use Rattle.std.specs.Prelude.{◌==◌, option_map}
use Rattle.std.proofs.lemmas.List.{map-set, set-get_or}
use Rattle.tword.specs.Claims.{Claims}
use Rattle.tproc.specs.Machine.{Control, buffer_of}
use Rattle.tproc.specs.declared.waiter.LinkEnd.{LinkEnd}
use Rattle.tproc.specs.declared.offer.Offer.{Offer}
use Rattle.tproc.specs.declared.channels.Side.{Side}
use Rattle.tproc.specs.declared.channels.Side.TheVariants.{Input, Output}
use Rattle.tproc.specs.LinkChannels.{link_end, with_link, quiet_end, ended_at, without_buffer}
use Rattle.tproc.specs.Agreement.{AgreesWith, StillAgrees}
use Rattle.tword.specs.Accesses.{with_input, with_output, without_input, without_output}

-- a link is set, and claims change in the same way
pub agrees_linked : (l : ℕ) (e : LinkEnd) (others : List ℕ) (c d : Claims) (m : Control) → AgreesWith others c m
    → d.inputs ≡ set c.inputs l (option_map buffer_of e.input)
    → d.outputs ≡ set c.outputs l (option_map buffer_of e.output) → d.saved ≡ c.saved
    → AgreesWith others d (with_link l e m)
agrees_linked l e others c d m h i o s =
    record {
      on =
          record {
            saved = λ v. ap (λ (xs : List ℕ). list_any (λ w. w == v) xs) s ∙ h.on.saved v;
            count = rw s h.on.count;
            distinct = h.on.distinct;
            inputs = i ∙ ap (λ xs. set xs l (option_map buffer_of e.input)) h.on.inputs
                ∙ sym (map-set (λ (x : LinkEnd). option_map buffer_of x.input) m.links l e);
            outputs = o ∙ ap (λ xs. set xs l (option_map buffer_of e.output)) h.on.outputs
                ∙ sym (map-set (λ (x : LinkEnd). option_map buffer_of x.output) m.links l e);
          };
    }

-- the buffer of a link in the claims
claimed_at : (f : LinkEnd → Option Offer) (ls : List LinkEnd) (l : ℕ) → f quiet_end ≡ None
    → get_or (map (λ e. option_map buffer_of (f e)) ls) l None ≡ option_map buffer_of (f (get_or ls l quiet_end))
claimed_at f [] l e = rw e refl
claimed_at f (x ∷ xs) zero e = refl
claimed_at f (x ∷ xs) (suc l) e = claimed_at f xs l e

pub output_at : (others : List ℕ) (c : Claims) (m : Control) (l : ℕ) → AgreesWith others c m
    → get_or c.outputs l None ≡ option_map buffer_of (link_end m l).output
output_at others c m l h = rw h.on.outputs (claimed_at (λ e. e.output) m.links l refl)

pub input_at : (others : List ℕ) (c : Claims) (m : Control) (l : ℕ) → AgreesWith others c m
    → get_or c.inputs l None ≡ option_map buffer_of (link_end m l).input
input_at others c m l h = rw h.on.inputs (claimed_at (λ e. e.input) m.links l refl)

-- so a link of which a half stays as it is has that half claimed as before
pub output_stays : (others : List ℕ) (c : Claims) (m : Control) (l : ℕ) → AgreesWith others c m
    → c.outputs ≡ set c.outputs l (option_map buffer_of (link_end m l).output)
output_stays others c m l h = rw (← output_at others c m l h) (sym (set-get_or c.outputs l None))

pub input_stays : (others : List ℕ) (c : Claims) (m : Control) (l : ℕ) → AgreesWith others c m
    → c.inputs ≡ set c.inputs l (option_map buffer_of (link_end m l).input)
input_stays others c m l h = rw (← input_at others c m l h) (sym (set-get_or c.inputs l None))

-- an output begins at a link, or an input
pub agrees_output : (l : ℕ) (o : Offer) (others : List ℕ) (c d : Claims) (m m' : Control) → AgreesWith others c m
    → d ≡ with_output l (buffer_of o) c → m' ≡ with_link l (record (link_end m l) { output = Some o }) m
    → AgreesWith others d m'
agrees_output l o others c d m m' h e k =
    rw (e, k) (agrees_linked l (record (link_end m l) { output = Some o }) others c (with_output l (buffer_of o) c) m h
    (input_stays others c m l h) refl refl)

pub agrees_input : (l : ℕ) (o : Offer) (others : List ℕ) (c d : Claims) (m m' : Control) → AgreesWith others c m
    → d ≡ with_input l (buffer_of o) c
    → m' ≡ with_link l (record (link_end m l) { input = Some o; noticed = false; remembered = None }) m
    → AgreesWith others d m'
agrees_input l o others c d m m' h e k =
    rw (e, k) (agrees_linked l (record (link_end m l) { input = Some o; noticed = false; remembered = None }) others c
    (with_input l (buffer_of o) c) m h refl (output_stays others c m l h) refl)

-- a link is set that keeps its offers
pub still_linked : (l : ℕ) (e : LinkEnd) (m m' : Control) → m' ≡ with_link l e m → e.output ≡ (link_end m l).output
    → e.input ≡ (link_end m l).input → StillAgrees m m'
still_linked l e m m' k o i = λ others c h.
    rw k (agrees_linked l e others c c m h (rw i (input_stays others c m l h)) (rw o (output_stays others c m l h))
    refl)

-- what is pending at a half of a link is over
pub agrees_ended : (side : Side) (l : ℕ) (others : List ℕ) (c d : Claims) (m m' : Control) → AgreesWith others c m
    → d ≡ without_buffer side l c → m' ≡ with_link l (ended_at side (link_end m l)) m → AgreesWith others d m'
agrees_ended Output l others c d m m' h e k =
    rw (e, k) (agrees_linked l (record (link_end m l) { output = None }) others c (without_output l c) m h
    (input_stays others c m l h) refl refl)
agrees_ended Input l others c d m m' h e k =
    rw (e, k) (agrees_linked l (record (link_end m l) { input = None }) others c (without_input l c) m h refl
    (output_stays others c m l h) refl)
