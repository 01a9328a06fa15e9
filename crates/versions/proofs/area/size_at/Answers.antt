-- `size_at` is right because its body is the definition; two bytes stay below 65,536.
use Rattle.fields.specs.Bytes.{short_at}
use borrow.Author.Rules.{rules}
use Rattle.versions.proofs.area.size_at.Goals as goal

pub returns : goal.returns
unfolding short_at
returns c =
    search rules
