use Rattle.std.proofs.Common.{◌≡◌, ◌≤◌, List, ℕ, Vec, Global, Result, Ok, Err, IfOk, length, Some}
use Rattle.std.specs.Prelude.{slice_get}
use Rattle.std.specs.declared.alloc.AllocError.{AllocError}
use Rattle.pawk_ere.specs.Pattern.{Pattern}
use Rattle.pawk_ere.specs.Tokens.{SpellsEre}
use Rattle.pawk_ere.specs.Spelled.{expression}
use Rattle.pawk_ere.specs.Words.{NeedsWords}
use Rattle.pawk_prefilter.specs.Needs.{Needs}
use Rattle.pawk_prefilter.specs.Passages.{texts_of}
use Rattle.pawk_prefilter.proofs.PassageLemmas.{needs_number}
use Rattle.pawk_prefilter.proofs.needs.words_of_number.Goals as goal

answers : (eres : List (List ℕ)) (k : ℕ) (text : List ℕ) (e : Pattern) (words : Result (Vec (List ℕ) Global) AllocError) → slice_get eres k ≡ Some text → SpellsEre text e → IfOk words (λ w. NeedsWords e w.items) → IfOk words (λ w. 1 ≤ length w.items → Needs eres w.items k)
answers eres k text e (Ok words) at spelled needs = needs_number eres k text e words.items at spelled needs
answers eres k text e (Err why) at spelled needs = tt

pub returns-in-Ok : goal.returns-in-Ok
returns-in-Ok c =
    answers (texts_of c.args.expressions.now) c.args.number c.in-Some.text.now (expression c.in-Ok.ere) c.needed_words_of.result c.in-Some.ensures c.in-Ok.ensures.found c.needed_words_of.ensures
