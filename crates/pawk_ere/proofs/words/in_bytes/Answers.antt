use Rattle.pawk_ere_automaton.specs.Members.{members_of}
use Rattle.std.proofs.Common.{◌∷◌, ◌++◌, [], List, ℕ, ap, ◌∙◌, subst, sym}
use Rattle.pawk_ere.specs.Words.{IsLiteral, AreFeatures}
use Rattle.pawk_ere_automaton.specs.Regex.{Bytes}
use Rattle.pawk_ere.proofs.Literals.{literal_byte}
use Rattle.pawk_ere.proofs.Needed.{features_of_literal, features_of_nothing}
use Rattle.pawk_ere.proofs.words.in_bytes.Goals as goal
use Rattle.pawk_ere.proofs.words.in_bytes.Goals.{in-Some+in_ok-push, in_default}

pub returns : goal.returns
returns c =
    let n = c.nothing-features.ensures in
    elim c.match-only_member.branch [
      | in-Some+in_ok-push w ↦
          subst (AreFeatures (Bytes (members_of c.args.set.now))) (sym w.features-is) (features_of_literal (Bytes (members_of c.args.set.now)) _
          (subst (IsLiteral (Bytes (members_of c.args.set.now))) (sym (w.in_ok-push.ensures.items ∙ ap (λ (l : List ℕ). l ++ w.in-Some.byte ∷ []) n.tail)) (literal_byte (members_of c.args.set.now) w.in-Some.byte w.in-Some.ensures.0 w.in-Some.ensures.1))
          n.words)
      | in_default w ↦ subst (AreFeatures (Bytes (members_of c.args.set.now))) (sym w.features-is) (features_of_nothing (Bytes (members_of c.args.set.now)) c.nothing-features.result n.tail n.whole n.words)
    ]
