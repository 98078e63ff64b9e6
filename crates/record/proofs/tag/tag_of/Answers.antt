use Rattle.record.proofs.Tags.{tags_fit}
use Rattle.record.proofs.tag.tag_of.Goals as goal

pub overflow_add-result : goal.overflow_add-result
overflow_add-result c = record { fits = tags_fit _ _ c.quadratic_tag-in-Combination.ensures c.convex_tag-in-Combination.ensures }
