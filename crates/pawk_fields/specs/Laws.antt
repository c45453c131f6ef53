-- The functions are the relations by which matchers and splitters are proved.
use Rattle.std.specs.Prelude.{◌≡◌, ◌↔◌, ℕ, Bool, Option, Some, None, Ok, Err, List}
use Rattle.pawk_value.specs.declared.faults.Fault.{Fault}
use Rattle.pawk_ere_syntax.specs.Pattern.{Pattern}
use Rattle.pawk_ere_syntax.specs.Tokens.{SpellsEre, SpellsNone}
use Rattle.pawk_ere.specs.Answers.{IsAnswer}
use Rattle.pawk_fields.specs.FieldsOf.{AreFieldsOf, IsFaultOf}
use Rattle.pawk_fields.specs.ReadEre.{read_ere}
use Rattle.pawk_fields.specs.Search.{find}
use Rattle.pawk_fields.specs.FieldList.{fields_of}

-- the expression that is read is the one that the bytes spell, and none is read where they spell none
pub record ReadLaw (bytes : List ℕ) : Type 0 where
  pub some : (e : Pattern) → (read_ere bytes ≡ Some e) ↔ SpellsEre bytes e
  pub none : (read_ere bytes ≡ None) ↔ SpellsNone bytes

-- what is found is the leftmost and longest match, and the only answer
pub record FindLaw (e : Pattern) (text : List ℕ) (from : ℕ) : Type 0 where
  pub answer : IsAnswer e text from (find e text from)
  pub only : (found : Option (ℕ × ℕ)) → IsAnswer e text from found → found ≡ find e text from

-- the fields are those of the record by the FS, and there is a fault where it has none by it
pub record FieldsLaw (fs : List ℕ) (paragraph : Bool) (s : List ℕ) : Type 0 where
  pub fields : (fields : List (ℕ × ℕ)) → (fields_of fs paragraph s ≡ Ok fields) ↔ AreFieldsOf fs paragraph s fields
  pub fault : (fault : Fault) → (fields_of fs paragraph s ≡ Err fault) ↔ IsFaultOf fs s fault
