use Rattle.std.proofs.Common.{List, refl, ap, ◌∙◌, subst}
use Rattle.std.specs.Io.KnownBytes.{Appends}
use Rattle.tplan.specs.declared.event.Note.{Note}
use Rattle.tnet.specs.Quiet.{is_quiet}
use Rattle.ttext.specs.declared.printed_run.RunEnd.{RunEnd}
use Rattle.ttext.specs.declared.printed_run.RunEnd.TheVariants.{Turns}
use Rattle.ttext.specs.Free.{shared_with}
use Rattle.ttext.specs.PrintedRuns.{printed_run}
use Rattle.ttext.proofs.free.free_net.Goals as goal

pub returns-clause-answer : goal.returns-clause-answer
returns-clause-answer g c =
    let t = c.in_ok-told.ensures.answer in
    let told = c.in_ok-told.told in
    let old = g.W.Write.contents c.args.out.now in
    let new = g.W.Write.contents c.write_run.new.out in
    let what = c.args.printing in
    let by_end : Appends old new (printed_run what c.as_slice-notes.result.now told.net (Turns (is_quiet told.net))) =
    subst (λ (e : RunEnd). Appends old new (printed_run what c.as_slice-notes.result.now told.net e))
    c.end_of-end.ensures c.in_ok-write_run.ensures.out in
    let text : Appends old new (printed_run what told.notes told.net (Turns (is_quiet told.net))) =
    subst (λ (n : List Note). Appends old new (printed_run what n told.net (Turns (is_quiet told.net))))
    c.as_slice-notes.ensures by_end in
    record {
      gathered = record { net = told.net; history = t.history; notes = told.notes };
      ran = record {
        opened = c.in_ok-net.net;
        due = ap (shared_with c.args.options.now) c.in_ok-net.ensures.answer ∙ c.in_ok-told.ensures.due;
        free = t.free;
      };
      net_is = refl;
      text = text;
      run = record {
        opened = c.in_ok-net.net;
        left = told.net;
        opening = c.in_ok-net.ensures.opening;
        run = t.run;
        printed = subst
            (λ (n : List Note). Appends old new (printed_run what n told.net (Turns (is_quiet told.net))))
            t.notes_told text;
      };
    }
