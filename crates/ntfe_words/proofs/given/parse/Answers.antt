use Rattle.std.proofs.Common.{◌≡◌, ◌∙◌, [], map, string_bytes, sym, ap, subst}
use Rattle.clap.specs.Faults.{fault_of, is_simple_and_free}
use Rattle.clap.specs.Kinds.{HasKind}
use Rattle.clap.specs.Matches.{found_of}
use Rattle.clap.specs.Simple.{is_simple, matches_of}
use Rattle.clap.specs.Walk.{rows_of}
use Rattle.ntfe_words.specs.Grammar.{command_line}
use Rattle.ntfe_words.proofs.Found.{all-text, parse-fails, words-taken}
use Rattle.ntfe_words.proofs.Grammar.{is_free, is_known}
use Rattle.ntfe_words.proofs.given.parse.Goals as goal

pub returns-in-Ok : goal.returns-in-Ok
returns-in-Ok c =
    let words = map string_bytes c.args.words.now in
    let app_is = c.in_ok-command_line.ensures in
    let none : fault_of command_line words ≡ [] = ap (λ a. fault_of a words) (sym app_is) ∙ c.in-Ok.ensures.kinds (ap is_simple_and_free app_is ∙ is_free) in
    let rows : rows_of (found_of c.in-Ok.matches) ≡ matches_of command_line words = (c.in-Ok.ensures.matches (ap is_simple app_is ∙ is_known)).0 ∙ ap (λ a. matches_of a words) app_is in
    words-taken words (all-text c.args.words.now) none (found_of c.in-Ok.matches) c.read_matches.result rows c.read_matches.ensures

pub returns-in-Err : goal.returns-in-Err
returns-in-Err c =
    let words = map string_bytes c.args.words.now in
    let app_is = c.in_ok-command_line.ensures in
    let failed : HasKind (fault_of command_line words) c.in-Err.error = subst (λ a. HasKind (fault_of a words) c.in-Err.error) app_is (c.in-Err.ensures.kinds (ap is_simple_and_free app_is ∙ is_free)) in
    parse-fails words c.of_error.result c.in-Err.error (all-text c.args.words.now) c.of_error.ensures failed
