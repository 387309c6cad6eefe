use Rattle.std.proofs.Common.{◌≡◌, ◌∙◌, ap, map, subst, Bor}
use Rattle.std.proofs.lemmas.Result.{err_from_is_err_and}
use Rattle.clap.specs.Words.{App, HasKind, Text, app_of, fault_of, found_of, is_simple_and_free, rows_of}
use Rattle.twords.specs.CommandLines.{command_in, program}
use Rattle.twords.proofs.WordAnswers.{met}
use Rattle.twords.proofs.words.read_taken.Goals as goal

pub asked-requires : goal.asked-requires
asked-requires c =
    let found = met c.in_ok-program.field-0 (map (λ (w : Bor Text). w.now) c.args.words.now) c.in_ok-matches.matches
    c.in-Some.name.now (rows_of (found_of c.in-Some.given.now))
    c.in_ok-program.ensures c.in_ok-matches.ensures.kinds c.in_ok-matches.ensures.matches c.in-Some.ensures.name
    c.in-Some.ensures.rows in
    found.2

pub returns-clause-command : goal.returns-clause-command
returns-clause-command c =
    let found = met c.in_ok-program.field-0 (map (λ (w : Bor Text). w.now) c.args.words.now) c.in_ok-matches.matches
    c.in-Some.name.now (rows_of (found_of c.in-Some.given.now))
    c.in_ok-program.ensures c.in_ok-matches.ensures.kinds c.in_ok-matches.ensures.matches c.in-Some.ensures.name
    c.in-Some.ensures.rows in
    ap command_in found.1 ∙ c.in_ok-asked.ensures.command

pub returns-clause-refused : goal.returns-clause-refused
returns-clause-refused c =
    let found = met c.in_ok-program.field-0 (map (λ (w : Bor Text). w.now) c.args.words.now) c.in_ok-matches.matches
    c.in-Some.name.now (rows_of (found_of c.in-Some.given.now))
    c.in_ok-program.ensures c.in_ok-matches.ensures.kinds c.in_ok-matches.ensures.matches c.in-Some.ensures.name
    c.in-Some.ensures.rows in
    found.0

pub returns-in_err-matches-clause-refused : goal.returns-in_err-matches-clause-refused
returns-in_err-matches-clause-refused c =
    let app : app_of c.in_ok-program.field-0 ≡ program = c.in_ok-program.ensures in
    let kind : HasKind (fault_of program (map (λ (w : Bor Text). w.now) c.args.words.now)) c.in_err-matches.field-0.0 =
    subst (λ (a : App). HasKind (fault_of a (map (λ (w : Bor Text). w.now) c.args.words.now))
    c.in_err-matches.field-0.0)
    app (c.in_err-matches.ensures.kinds (ap is_simple_and_free app)) in
    let fault = err_from_is_err_and c.from_residual-in_err-matches.result c.from_residual-in_err-matches.ensures.1 in
    rw (fault.1, fault.2) kind
