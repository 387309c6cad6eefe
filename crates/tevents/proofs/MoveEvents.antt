-- The node and the ends of a move fit into bytes, and a move is one step.
use Rattle.std.proofs.Common.{◌≡◌, ℕ, ◌<◌, ◌≤◌, sym, ap, ◌∙◌, subst, length, Some, Result, Ok, Err}
use Rattle.std.proofs.Common.{inl, inr, arith}
use Rattle.std.proofs.lemmas.Option.{same_Some, slice_get_within}
use Rattle.tword.specs.declared.breaks.Break.{Break}
use Rattle.tproc.specs.declared.ran.Ran.{Ran}
use Rattle.tproc.specs.Machine.{Machine}
use Rattle.tproc.specs.Steps.{step}
use Rattle.tproc.specs.LinkChannels.{link_end}
use Rattle.tlink.specs.Node.{output_at}
use Rattle.tplan.specs.declared.plan.End.{End}
use Rattle.tplan.specs.Wires.{far_end}
use Rattle.tnet.specs.Net.{NetState}
use Rattle.tnet.specs.Rendezvous.{Node, Configuration, Step, Copy, Freeze_at, Lawful, IsLocal, IsWake, IsCopy, node_of}
use Rattle.tnet.specs.Sound.{IsSound}
use Rattle.tnet.specs.View.{view}
use Rattle.tnet.proofs.OpenedWires.{wired_ends}
use Rattle.tnet.proofs.SoundNodes.{output_below}
use Rattle.treduction.proofs.Quiet.{IsSeen, is_seen}
use Rattle.tevents.specs.declared.moves.Move.{Move}
use Rattle.tevents.specs.declared.moves.Move.TheVariants as moves
use Rattle.tevents.specs.Finding.{IsMove, CanMove}
use Rattle.tevents.specs.Doing.{IsSmall}

-- the step of a processor is one, or one break
no_both : (w : Configuration) (n : ℕ) (s t : Node) (b : Break) (m : Machine) (r : Ran) → node_of w n ≡ Some s
    → node_of w n ≡ Some t → step s.machine ≡ Ok (m, r) → step t.machine ≡ Err b → ⊥
no_both w n s t b m r here there steps breaks =
    let same : s ≡ t = same_Some _ _ (sym here ∙ there) in
    let k : ◌≡◌ {A = Result (Machine × Ran) Break} (Ok (m, r)) (Err b) =
    sym steps ∙ ap (λ (x : Node). step x.machine) same ∙ breaks in
    cc

one_break : (w : Configuration) (n : ℕ) (s t : Node) (b c : Break) → node_of w n ≡ Some s → node_of w n ≡ Some t
    → step s.machine ≡ Err b → step t.machine ≡ Err c → b ≡ c
one_break w n s t b c here there breaks breaks' =
    let same : s ≡ t = same_Some _ _ (sym here ∙ there) in
    let k : ◌≡◌ {A = Result (Machine × Ran) Break} (Err b) (Err c) =
    sym breaks ∙ ap (λ (x : Node). step x.machine) same ∙ breaks' in
    cc

-- a node that is seen is one of the net
seen_below : (net : NetState) (n : ℕ) (s : Node) → IsSound net → node_of (view net) n ≡ Some s
    → n < length net.nodes
seen_below net n s sound here = by (is_seen net n s sound here)
  where
    by : IsSeen net n s → n < length net.nodes
    by t = slice_get_within net.nodes n t.node t.there

pub own_small : (net : NetState) → IsSound net → length net.nodes ≤ 64 → (n : ℕ)
    → CanMove (view net) (moves.Own n) → n < 256
own_small net sound few n c = by c.step c.is c.lawful
  where
    by : (s : Step) → IsMove (view net) (moves.Own n) s → Lawful (view net) s c.next → n < 256
    by s (inl e) k =
        let l : IsLocal (view net) n c.next = subst (λ (t : Step). Lawful (view net) t c.next) e k in
        omega (arith, few, seen_below net n l.node sound l.here)
    by s (inr (b, e, h)) k = omega (arith, few, seen_below net n h.node sound h.here)

pub wake_small : (net : NetState) → IsSound net → length net.nodes ≤ 64 → (f : End)
    → CanMove (view net) (moves.Wake f) → IsSmall f
wake_small net sound few f c = by (subst (λ (t : Step). Lawful (view net) t c.next) c.is c.lawful)
  where
    by : IsWake (view net) f c.next → IsSmall f
    by k = on (is_seen net f.node k.node sound k.copied.node)
      where
        on : IsSeen net f.node k.node → IsSmall f
        on t =
            let out : output_at t.node f.link ≡ Some k.out =
            ap (λ (x : Node). (link_end x.machine.control f.link).output) t.looks ∙ k.copied.output in
            let below : f.link < 4 = output_below net f.node f.link t.node sound t.there k.out out in
            record {
              node = omega (arith, few, seen_below net f.node k.node sound k.copied.node);
              link = omega (arith, below);
            }

-- the ends of a wire
pub both_small : (net : NetState) → IsSound net → length net.nodes ≤ 64 → (e f : End) → far_end net.wires e ≡ Some f
    → IsSmall e × IsSmall f
both_small net sound few e f wire =
    let w = wired_ends (length net.nodes) net.wires e f sound.wires.ends wire in (
      record { node = omega (arith, few, w.0.0); link = omega (arith, w.0.1) },
      record { node = omega (arith, few, w.1.0); link = omega (arith, w.1.1) },
    )

-- a move is one step
pub same_step : (w w1 w2 : Configuration) (m : Move) (s t : Step) → IsMove w m s → Lawful w s w1 → IsMove w m t
    → Lawful w t w2 → s ≡ t
same_step w w1 w2 (moves.Own n) s t (inl e) k (inl f) l = e ∙ sym f
same_step w w1 w2 (moves.Own n) s t (inl e) k (inr (b, f, h)) l =
    let j : IsLocal w n w1 = subst (λ (x : Step). Lawful w x w1) e k in
    absurd (no_both w n j.node h.node b j.machine j.ran j.here h.here j.steps h.breaks)
same_step w w1 w2 (moves.Own n) s t (inr (b, e, h)) k (inl f) l =
    let j : IsLocal w n w2 = subst (λ (x : Step). Lawful w x w2) f l in
    absurd (no_both w n j.node h.node b j.machine j.ran j.here h.here j.steps h.breaks)
same_step w w1 w2 (moves.Own n) s t (inr (b, e, h)) k (inr (c, f, i)) l =
    e ∙ ap (λ (x : Break). Freeze_at n x) (one_break w n h.node i.node b c h.here i.here h.breaks i.breaks) ∙ sym f
same_step w w1 w2 (moves.Notice e) s t h k i l = h ∙ sym i
same_step w w1 w2 (moves.Copy e) s t (f, h) k (g, i) l =
    let a : IsCopy w f e w1 = subst (λ (x : Step). Lawful w x w1) h k in
    let b : IsCopy w g e w2 = subst (λ (x : Step). Lawful w x w2) i l in
    h ∙ ap (λ (x : End). Copy x e) (same_Some _ _ (sym a.wired ∙ b.wired)) ∙ sym i
same_step w w1 w2 (moves.Wake f) s t h k i l = h ∙ sym i
same_step w w1 w2 (moves.Mismatch e) s t (h, m, at) k (i, m', at') l = h ∙ sym i
