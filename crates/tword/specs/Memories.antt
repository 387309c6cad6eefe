-- The memory of a node, as contracts see it.
-- Source: own choice.
use Rattle.tword.specs.declared.kind.Kind.{Kind}
use Rattle.tword.specs.Stores.{Store}

-- the bytes of a memory, and the kind of its node
pub record NodeMemory : Type 0 where
  pub bytes : Store
  pub kind : Kind
