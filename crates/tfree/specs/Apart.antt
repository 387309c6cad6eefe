-- The parts of a worker, which keep what the worker kept.
-- Source: own choice.
use Rattle.std.specs.Prelude.{◌≡◌}
use Rattle.tfree.specs.Ends.{ins_view, outs_view}
use Rattle.tfree.specs.Views.{View}
use Rattle.tfree.specs.Kept.{IsShare, Kept, in_ids, out_ids}
use Rattle.tfree.specs.declared.worker.WorkerParts.{WorkerParts}

pub record IsTakenApart (v : View) (p : WorkerParts) : Type 0 where
  pub wires : p.wires ≡ v.share.opened.wires
  pub nodes : p.nodes.items ≡ v.nodes
  pub events : p.log.events.items ≡ v.events
  pub told : p.log.told.items ≡ v.told
  pub ins : in_ids (ins_view p.ins.items) ≡ v.share.ins
  pub outs : out_ids (outs_view p.outs.items) ≡ v.share.outs
  pub share : IsShare v.share
  pub kept : Kept v.share p.nodes.items p.log.clock (ins_view p.ins.items) (outs_view p.outs.items) v.events v.told
