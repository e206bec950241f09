use Rattle.std.proofs.Common.{rules, ◌≡◌, ◌∙◌, [], ◌∷◌, codes, true, false, true≢false, sym}
use Rattle.ntfe_words.specs.CommandLine.{Text, Reading, IsMeaningOf}
use Rattle.ntfe_words.specs.Parse.{IsGiven, has_list_option}
use Rattle.ntfe_words.specs.declared.command.Command.{Command}
use Rattle.ntfe_words.specs.declared.command.Command.TheVariants.{Classes, Resume, Faces, Demo}
use Rattle.ntfe_words.specs.declared.given.Given.{Given}
use Rattle.ntfe_words.proofs.Commands.{demo-only, only-demo}
use Rattle.ntfe_words.proofs.meaning.demo.Goals as goal

means-no-demo : (r : Reading) (g : Given) (w : Text) → IsGiven r g → r.plains ≡ codes "demo" ∷ w ∷ [] → has_list_option g ≡ true → (command : Command) → ¬ (IsMeaningOf r command)
means-no-demo r g w given plains list (Classes o) m =
    let bad : codes "demo" ∷ w ∷ [] ≡ codes "classes" ∷ [] = sym plains ∙ m.0 in
    absurd cc
means-no-demo r g w given plains list (Resume o) m =
    let bad : codes "demo" ∷ w ∷ [] ≡ codes "resume" ∷ [] = sym plains ∙ m.0 in
    absurd cc
means-no-demo r g w given plains list Faces m =
    let bad : codes "demo" ∷ w ∷ [] ≡ codes "faces" ∷ [] = sym plains ∙ m.0 in
    absurd cc
means-no-demo r g w given plains list (Demo n workers width) m = true≢false (sym list ∙ demo-only r g given m.known)

pub returns-then-has_list_option : goal.returns-then-has_list_option
returns-then-has_list_option c r given plains = means-no-demo r c.args.given.now c.args.word.now given plains (search rules)

pub returns : goal.returns
returns c r given plains =
    let list : has_list_option c.args.given.now ≡ false = search rules in
    record {
      word = c.args.word.now;
      plains = plains;
      n_is = search rules;
      known = only-demo r c.args.given.now given list;
      workers_is = search (rules, given.workers);
      width_is = search (rules, given.width);
    }
