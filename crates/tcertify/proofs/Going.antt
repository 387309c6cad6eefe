-- A process behind a jump, and one that rests and goes on.
use Rattle.std.proofs.Common.{◌≡◌, ◌<◌, ℕ, sym, subst, length, Ok, Err, None}
use Rattle.tprocesses.specs.Places.{Name}
use Rattle.tprocesses.specs.Values.{Context, Rests}
use Rattle.tprocesses.specs.Parts.{Reason, Doing, ◌>>◌}
use Rattle.tprocesses.specs.Touching.{Site, kept, save}
use Rattle.tprocesses.specs.Standing.{forget, goes_on, resumes, stands, takes_back, unsave}
use Rattle.tprocesses.specs.Instructions.{jumped}
use Rattle.tcertify.specs.declared.fault.Fault.{Fault}
use Rattle.tcertify.specs.declared.node.Node.{Node}
use Rattle.tcertify.specs.Nodes.{Does, RunsAt, name_at, node_site, nothing}
use Rattle.tcertify.proofs.Following.{does_then, inside_still, runs_then}
use Rattle.tcertify.proofs.NodeRunning.{does_stop, runs_at_stop}

module _ (a b : Node) (k n : ℕ) (ctx : Context) (low : n ≡ 1) where
  -- the jump at this priority
  abbrev jumping : ℕ → Doing
  jumping p = jumped p (node_site a) (name_at a k) ctx

  pub rests_not : (why : Reason) → RunsAt (save (node_site a) ctx.wptr kept) a (Err why) b
      → RunsAt (jumped n (node_site a) (name_at a k) ctx) a (Err why) b
  rests_not why h =
      subst (λ (p : ℕ). RunsAt (jumping p) a (Err why) b) (sym low)
      (runs_at_stop (save (node_site a) ctx.wptr kept) (λ _. stands (name_at a k) (Rests (forget ctx))) a b why h)

  pub rests : (c : Node) (left : Context) → left ≡ forget ctx → k < length a.processes.items.items
      → RunsAt (save (node_site a) ctx.wptr kept) a (Ok tt) b → RunsAt (stands (name_at b k) (Rests left)) b (Ok tt) c
      → RunsAt (jumped n (node_site a) (name_at a k) ctx) a (Ok tt) c
  rests c left e inside first h =
      subst (λ (p : ℕ). RunsAt (jumping p) a (Ok tt) c) (sym low)
      (runs_then a b c k (save (node_site a) ctx.wptr kept) (λ s y _. stands y (Rests (forget ctx))) tt first inside
      (Ok tt) (subst (λ (l : Context). RunsAt (stands (name_at b k) (Rests l)) b (Ok tt) c) e h))

module _ (a b : Node) (k : ℕ) (ctx : Context) where
  abbrev over : Site → Name → Doing
  over s x = takes_back s ctx.lent >> goes_on x (record ctx { lent = None })

  pub resumes_not : (e : Fault) → Does (unsave (node_site a) ctx.wptr) nothing a (Err e) b
      → Does (resumes (node_site a) (name_at a k) ctx) nothing a (Err e) b
  resumes_not e h =
      does_stop (unsave (node_site a) ctx.wptr) (λ _. over (node_site a) (name_at a k)) nothing nothing a b e h

  module _ (c : Node) where
    pub takes_not_back : (e : Fault) → k < length a.processes.items.items
        → RunsAt (unsave (node_site a) ctx.wptr) a (Ok tt) b
        → Does (takes_back (node_site b) ctx.lent) nothing b (Err e) c
        → Does (resumes (node_site a) (name_at a k) ctx) nothing a (Err e) c
    takes_not_back e inside first h =
        does_then a b c k (unsave (node_site a) ctx.wptr) (λ s x _. over s x) tt first inside nothing (Err e)
        (does_stop (takes_back (node_site b) ctx.lent) (λ _. goes_on (name_at b k) (record ctx { lent = None })) nothing
        nothing b c e h)

    pub resumed : (d : Node) (left : Context) → left ≡ record ctx { lent = None } → k < length a.processes.items.items
        → RunsAt (unsave (node_site a) ctx.wptr) a (Ok tt) b → RunsAt (takes_back (node_site b) ctx.lent) b (Ok tt) c
        → RunsAt (goes_on (name_at c k) left) c (Ok tt) d
        → RunsAt (resumes (node_site a) (name_at a k) ctx) a (Ok tt) d
    resumed d left e inside first second third =
        runs_then a b d k (unsave (node_site a) ctx.wptr) (λ s x _. over s x) tt first inside (Ok tt)
        (runs_then b c d k (takes_back (node_site b) ctx.lent) (λ s x _. goes_on x (record ctx { lent = None })) tt
        second (inside_still a b k first.grows inside) (Ok tt)
        (subst (λ (l : Context). RunsAt (goes_on (name_at c k) l) c (Ok tt) d) e third))
