-- Messages on links, part by part.
use Rattle.std.proofs.Common.{◌≡◌, ◌<◌, ℕ, sym, subst, refl, length, Bool, true, false, None}
use Rattle.std.proofs.Common.{List, Result, Ok, Err, pos}
use Rattle.std.specs.Prelude.{replicate, not, ◌==◌}
use Rattle.tword.specs.declared.breaks.Break.TheVariants.{LinkBusy, Unaligned, WrongEnd, ZeroLength}
use Rattle.tword.specs.declared.span.Span.{Span}
use Rattle.tword.specs.Stores.{Store}
use Rattle.tword.specs.Touches.{Reads, Writes, is_aligned}
use Rattle.tproc.specs.declared.channels.Side.{Side}
use Rattle.tproc.specs.declared.channels.Side.TheVariants.{Input, Output}
use Rattle.tproc.specs.LinkChannels as links
use Rattle.tplan.specs.Wires.{end_at}
use Rattle.tprocesses.specs.LinkMessages.{finished, is_empty, lends, takes_link}
use Rattle.tprocesses.specs.Changes.{Put}
use Rattle.tprocesses.specs.Parts.{Reason, Breaks, Doing, change, require, see}
use Rattle.tprocesses.specs.Parts.{◌>>=◌, ◌>>◌}
use Rattle.tprocesses.specs.Places as place
use Rattle.tprocesses.specs.Places.{Name, Place}
use Rattle.tprocesses.specs.Standing.{forget, stands}
use Rattle.tprocesses.specs.Touching.{Site, count_outputs, kept, put, replaced, save, touch}
use Rattle.tprocesses.specs.Values as value
use Rattle.tprocesses.specs.Values.{Context, Free, IsLink, Link, Receiving, Value, Waits, link_in}
use Rattle.tcertify.specs.declared.channel.LinkHalf.{LinkHalf}
use Rattle.tcertify.specs.declared.channel.LinkHalf.TheVariants as half
use Rattle.tcertify.specs.declared.fault.Fault.{Fault}
use Rattle.tcertify.specs.declared.fault.Fault.TheVariants as fault
use Rattle.tcertify.specs.declared.node.Node.{Node}
use Rattle.tcertify.specs.declared.stop.Stop as stop
use Rattle.tcertify.specs.declared.stop.Stop.TheVariants as stops
use Rattle.tcertify.specs.Channels.{link_of}
use Rattle.tcertify.specs.Messages.{offers}
use Rattle.tcertify.specs.Nodes.{Does, RunsAt, name_at, node_site, nothing}
use Rattle.tcertify.specs.Words.{reason_of}
use Rattle.tcertify.proofs.Following.{does_then, inside_still, runs_next, runs_then}
use Rattle.tcertify.proofs.NodeRunning.{does_on, does_stop, runs_at_stop}
use Rattle.tcertify.proofs.NodeRunning.{runs_at_stopped}

-- a process whose message pends waits
module _ (a b : Node) (k : ℕ) (ctx : Context) (side : Side) (buffer : Span) where
  abbrev lends_first : Site → Name → Doing
  lends_first s x = lends side s buffer >> stands x (Waits (forget ctx))

  pub offers_unsaved : (why : Reason) → RunsAt (save (node_site a) ctx.wptr kept) a (Err why) b
      → RunsAt (offers (node_site a) (name_at a k) ctx side buffer) a (Err why) b
  offers_unsaved why h =
      runs_at_stop (save (node_site a) ctx.wptr kept) (λ _. lends_first (node_site a) (name_at a k)) a b why h

  module _ (inside : k < length a.processes.items.items)
      (first : RunsAt (save (node_site a) ctx.wptr kept) a (Ok tt) b) (c : Node) where
    pub offers_unlent : (e : Fault) → Does (lends side (node_site b) buffer) nothing b (Err e) c
        → Does (offers (node_site a) (name_at a k) ctx side buffer) nothing a (Err e) c
    offers_unlent e h =
        does_then a b c k (save (node_site a) ctx.wptr kept) (λ s x _. lends_first s x) tt first inside nothing (Err e)
        (does_stop (lends side (node_site b) buffer) (λ _. stands (name_at b k) (Waits (forget ctx))) nothing nothing b
        c
        e h)

    pub offers_so : (d : Node) (left : Context) → left ≡ forget ctx
        → RunsAt (lends side (node_site b) buffer) b (Ok tt) c → RunsAt (stands (name_at c k) (Waits left)) c (Ok tt) d
        → RunsAt (offers (node_site a) (name_at a k) ctx side buffer) a (Ok tt) d
    offers_so d left e second third =
        runs_then a b d k (save (node_site a) ctx.wptr kept) (λ s x _. lends_first s x) tt first inside (Ok tt)
        (runs_then b c d k (lends side (node_site b) buffer) (λ s x _. stands x (Waits (forget ctx))) tt second
        (inside_still a b k first.grows inside) (Ok tt)
        (subst (λ (l : Context). RunsAt (stands (name_at c k) (Waits l)) c (Ok tt) d) e third))

-- a buffer is lent
module _ (a b : Node) (buffer : Span) where
  pub lends_not_read : (why : Reason) → RunsAt (touch (node_site a) Reads buffer) a (Err why) b
      → RunsAt (lends Output (node_site a) buffer) a (Err why) b
  lends_not_read why h =
      runs_at_stop (touch (node_site a) Reads buffer) (λ (_ : Store). count_outputs (node_site a) (pos 1) buffer) a b
      why h

  pub lends_read : (c : Node) (cells : Store) (r : Result (Unit {0}) Fault)
      → RunsAt (touch (node_site a) Reads buffer) a (Ok cells) b
      → Does (count_outputs (node_site b) (pos 1) buffer) nothing b r c
      → Does (lends Output (node_site a) buffer) nothing a r c
  lends_read c cells r first h =
      does_on (touch (node_site a) Reads buffer) (λ (_ : Store). count_outputs (node_site a) (pos 1) buffer) nothing a b
      c
      cells r first
      (subst (λ (s : Site). Does (count_outputs s (pos 1) buffer) nothing b r c) first.grows.site h)

  -- the words of an input's buffer are marked
  abbrev marks_input : Site → Store → Doing
  marks_input s words = put s Receiving buffer (replaced buffer words (replicate buffer.size None))

  pub lends_not_written : (why : Reason) → RunsAt (touch (node_site a) Writes buffer) a (Err why) b
      → RunsAt (lends Input (node_site a) buffer) a (Err why) b
  lends_not_written why h =
      runs_at_stop (touch (node_site a) Writes buffer) (marks_input (node_site a)) a b why h

  pub lends_written : (c : Node) (cells : Store) → RunsAt (touch (node_site a) Writes buffer) a (Ok cells) b
      → RunsAt (put (node_site b) Receiving buffer (replaced buffer cells (replicate buffer.size None))) b (Ok tt) c
      → RunsAt (lends Input (node_site a) buffer) a (Ok tt) c
  lends_written c cells first h =
      runs_next a b c (touch (node_site a) Writes buffer) marks_input cells first (Ok tt) h

-- a process offers a message, or asks for one
module _ (a : Node) (k : ℕ) (ctx : Context) (side : Side) (channel : ℕ) (buffer : Span) where
  abbrev half_at : Site → Place
  half_at s = place.LinkHalf (end_at s.number (links.link_of side channel)) side

  abbrev sets_link : Site → Name → Doing
  sets_link s x =
      change (half_at s) (Put (IsLink (value.Offered (record { process = x; buffer = buffer }))))
      >> offers s x ctx side buffer

  abbrev finishes_first : Site → Name → Doing
  finishes_first s x = finished side (end_at s.number (links.link_of side channel)) >> sets_link s x

  abbrev sets_link_if : Bool → Site → Name → Doing
  sets_link_if t s x = require t (Breaks LinkBusy) >> finishes_first s x

  abbrev asks_link : Site → Name → Doing
  asks_link s x = see (half_at s) >>= (λ (v : Value). sets_link_if (is_empty (link_in v)) s x)

  abbrev with_length : Bool → Site → Name → Doing
  with_length t s x = require t (Breaks ZeroLength) >> asks_link s x

  abbrev with_end : Bool → Bool → Site → Name → Doing
  with_end u t s x = require u (Breaks WrongEnd) >> with_length t s x

  abbrev with_checks : Bool → Bool → Bool → Doing
  with_checks v u t = require v (Breaks Unaligned) >> with_end u t (node_site a) (name_at a k)

  by_checks : (v u t : Bool) (b : Node) (r : Result (Unit {0}) Fault) → is_aligned channel ≡ v
      → links.is_right_end side channel ≡ u → not (buffer.size == 0) ≡ t → Does (with_checks v u t) nothing a r b
      → Does (takes_link (node_site a) (name_at a k) ctx side channel buffer) nothing a r b
  by_checks v u t b r e f g h =
      subst (λ (w : Bool). Does (with_checks w (links.is_right_end side channel) (not (buffer.size == 0))) nothing a r
      b)
      (sym e)
      (subst (λ (w : Bool). Does (with_checks v w (not (buffer.size == 0))) nothing a r b) (sym f)
      (subst (λ (w : Bool). Does (with_checks v u w) nothing a r b) (sym g) h))

  pub links_unaligned : is_aligned channel ≡ false
      → RunsAt (takes_link (node_site a) (name_at a k) ctx side channel buffer) a (Err (Breaks Unaligned)) a
  links_unaligned e =
      by_checks false (links.is_right_end side channel) (not (buffer.size == 0)) a
      (Err (fault.Stops (stops.Breaks Unaligned))) e refl refl (runs_at_stopped (Breaks Unaligned) a)

  module _ (aligned : is_aligned channel ≡ true) where
    pub links_wrongly : links.is_right_end side channel ≡ false
        → RunsAt (takes_link (node_site a) (name_at a k) ctx side channel buffer) a (Err (Breaks WrongEnd)) a
    links_wrongly e =
        by_checks true false (not (buffer.size == 0)) a (Err (fault.Stops (stops.Breaks WrongEnd))) aligned e refl
        (runs_at_stopped (Breaks WrongEnd) a)

    module _ (right : links.is_right_end side channel ≡ true) where
      pub links_nothing : not (buffer.size == 0) ≡ false
          → RunsAt (takes_link (node_site a) (name_at a k) ctx side channel buffer) a (Err (Breaks ZeroLength)) a
      links_nothing e =
          by_checks true true false a (Err (fault.Stops (stops.Breaks ZeroLength))) aligned right e
          (runs_at_stopped (Breaks ZeroLength) a)

      module _ (long : not (buffer.size == 0) ≡ true) (inside : k < length a.processes.items.items) (l : ℕ)
          (named : l ≡ links.link_of side channel) (pending : Link) (b : Node)
          (first : RunsAt (see (place.LinkHalf (end_at (node_site a).number l) side)) a (Ok (IsLink pending)) b) where
        links_by : (t : Bool) (c : Node) (r : Result (Unit {0}) Fault) → is_empty pending ≡ t
            → Does (sets_link_if t (node_site b) (name_at b k)) nothing b r c
            → Does (takes_link (node_site a) (name_at a k) ctx side channel buffer) nothing a r c
        links_by t c r e h =
            by_checks true true true c r aligned right long
            (does_then a b c k (see (half_at (node_site a)))
            (λ s x (v : Value). sets_link_if (is_empty (link_in v)) s x) (IsLink pending)
            (subst (λ (n : ℕ). RunsAt (see (place.LinkHalf (end_at (node_site a).number n) side)) a (Ok (IsLink
            pending)) b) named
            first) inside nothing r
            (subst (λ (u : Bool). Does (sets_link_if u (node_site b) (name_at b k)) nothing b r c) (sym e) h))

        pub links_busy : is_empty pending ≡ false
            → RunsAt (takes_link (node_site a) (name_at a k) ctx side channel buffer) a (Err (Breaks LinkBusy)) b
        links_busy e =
            links_by false b (Err (fault.Stops (stops.Breaks LinkBusy))) e (runs_at_stopped (Breaks LinkBusy) b)

        pub links_unfinished : (c : Node) (why : stop.Stop) → is_empty pending ≡ true
            → RunsAt (finished side (end_at (node_site b).number l)) b (Err (reason_of why)) c
            → RunsAt (takes_link (node_site a) (name_at a k) ctx side channel buffer) a (Err (reason_of why)) c
        links_unfinished c why e second =
            links_by true c (Err (fault.Stops why)) e
            (runs_at_stop (finished side (end_at (node_site b).number (links.link_of side channel)))
            (λ _. sets_link (node_site b) (name_at b k)) b c (reason_of why)
            (subst (λ (n : ℕ). RunsAt (finished side (end_at (node_site b).number n)) b (Err (reason_of why)) c) named
            second))

        pub links_so : (c d g : Node) (r : Result (Unit {0}) Fault) → is_empty pending ≡ true
            → RunsAt (finished side (end_at (node_site b).number l)) b (Ok tt) c
            → RunsAt (change (place.LinkHalf (end_at (node_site c).number l) side)
            (Put (IsLink (value.Offered (record { process = name_at c k; buffer = buffer }))))) c (Ok tt) d
            → Does (offers (node_site d) (name_at d k) ctx side buffer) nothing d r g
            → Does (takes_link (node_site a) (name_at a k) ctx side channel buffer) nothing a r g
        links_so c d g r e second third fourth =
            let in_b = inside_still a b k first.grows inside in
            links_by true g r e
            (does_then b c g k (finished side (end_at (node_site b).number (links.link_of side channel)))
            (λ s x _. sets_link s x) tt (subst (λ (n : ℕ). RunsAt (finished side (end_at (node_site b).number n)) b
            (Ok tt) c) named second) in_b nothing r
            (does_then c d g k (change (half_at (node_site c))
            (Put (IsLink (value.Offered (record { process = name_at c k; buffer = buffer })))))
            (λ s x _. offers s x ctx side buffer) tt
            (subst (λ (n : ℕ). RunsAt (change (place.LinkHalf (end_at (node_site c).number n) side)
            (Put (IsLink (value.Offered (record { process = name_at c k; buffer = buffer }))))) c (Ok tt) d) named
            third)
            (inside_still b c k second.grows in_b) nothing r fourth))

-- what pends where not nothing does
pub is_taken : (names : List Name) (h : LinkHalf) → (h ≡ half.Empty → ⊥) → is_empty (link_of names h) ≡ false
is_taken names half.Empty n = absurd (n refl)
is_taken names (half.Offered r) n = refl
is_taken names (half.Enabled k) n = refl
is_taken names (half.Awaited k) n = refl
is_taken names (half.Fired k) n = refl
