-- The numbers of reasons and of rules: those that the code has for its cases are those of the definitions, and no two are
-- alike.
-- Assumes nothing.
use Prim.Native.Nat.{ℕ, ◌+◌}
use mathlib.Core.Path.{◌≡◌, refl, sym, ap, ◌∙◌}
use mathlib.Core.List.{[], ◌∷◌}
use lib.ListN.{get_or}
use denote.Enum.Declared.{tag_of}
use Rattle.answers.specs.declared.refusals.Reason.{Reason}
use Rattle.answers.specs.declared.refusals.Reason.TheVariants as reason
use Rattle.answers.specs.declared.rules.Rule.{Rule}
use Rattle.answers.specs.declared.rules.Rule.TheVariants as rule
use Rattle.answers.specs.contracts.refusals.Reason as reasons
use Rattle.answers.specs.contracts.rules.Rule as rules
use Rattle.answers.specs.Answers.{reason_number, number_of_rule}

-- ---- a reason

pub reason_tag : (r : Reason) → tag_of reasons.the_type r + 1 ≡ reason_number r
unfolding reason_number
reason_tag reason.UnknownRecord = refl
reason_tag reason.RecordCutShort = refl
reason_tag reason.TooManyTerms = refl
reason_tag reason.ChannelOutOfRange = refl
reason_tag reason.ForwardReference = refl
reason_tag reason.ClassMismatch = refl
reason_tag reason.OverLimit = refl
reason_tag reason.BadTokens = refl
reason_tag reason.WrongEnd = refl
reason_tag reason.WrongLength = refl
reason_tag reason.Malformed = refl
reason_tag reason.UnknownKind = refl
reason_tag reason.CutShort = refl
reason_tag reason.NoComponent = refl
reason_tag reason.WrongComponent = refl
reason_tag reason.NoNode = refl
reason_tag reason.NoRule = refl
reason_tag reason.EmptyChannel = refl
reason_tag reason.TooManyComponents = refl
reason_tag reason.FullChannel = refl
reason_tag reason.ShortBuffer = refl

-- the reason of a number; for one that none has, any will do
reason_at : ℕ → Reason
reason_at n = get_or (
    reason.UnknownRecord ∷ reason.UnknownRecord ∷ reason.RecordCutShort ∷ reason.TooManyTerms ∷
    reason.ChannelOutOfRange ∷ reason.ForwardReference ∷ reason.ClassMismatch ∷ reason.OverLimit ∷
    reason.BadTokens ∷ reason.WrongEnd ∷ reason.WrongLength ∷ reason.Malformed ∷ reason.UnknownKind ∷
    reason.CutShort ∷ reason.NoComponent ∷ reason.WrongComponent ∷ reason.NoNode ∷ reason.NoRule ∷
    reason.EmptyChannel ∷ reason.TooManyComponents ∷ reason.FullChannel ∷ reason.ShortBuffer ∷ []) n reason.UnknownRecord

reason_back : (r : Reason) → reason_at (reason_number r) ≡ r
unfolding reason_number reason_at
reason_back reason.UnknownRecord = refl
reason_back reason.RecordCutShort = refl
reason_back reason.TooManyTerms = refl
reason_back reason.ChannelOutOfRange = refl
reason_back reason.ForwardReference = refl
reason_back reason.ClassMismatch = refl
reason_back reason.OverLimit = refl
reason_back reason.BadTokens = refl
reason_back reason.WrongEnd = refl
reason_back reason.WrongLength = refl
reason_back reason.Malformed = refl
reason_back reason.UnknownKind = refl
reason_back reason.CutShort = refl
reason_back reason.NoComponent = refl
reason_back reason.WrongComponent = refl
reason_back reason.NoNode = refl
reason_back reason.NoRule = refl
reason_back reason.EmptyChannel = refl
reason_back reason.TooManyComponents = refl
reason_back reason.FullChannel = refl
reason_back reason.ShortBuffer = refl

pub reasons_differ : (r q : Reason) → reason_number r ≡ reason_number q → r ≡ q
reasons_differ r q e = sym (reason_back r) ∙ ap reason_at e ∙ reason_back q

-- ---- a rule

pub rule_tag : (r : Rule) → tag_of rules.the_type r + 1 ≡ number_of_rule r
unfolding number_of_rule
rule_tag rule.Out = refl
rule_tag rule.In = refl
rule_tag rule.Rep = refl
rule_tag rule.Atst = refl
rule_tag rule.Atre = refl
rule_tag rule.Atfail = refl
rule_tag rule.Atok = refl
rule_tag rule.Ardok = refl
rule_tag rule.Ardf = refl
rule_tag rule.Awr = refl
rule_tag rule.Aoi = refl
rule_tag rule.Aof = refl
rule_tag rule.Aoe = refl

rule_at : ℕ → Rule
rule_at n = get_or (
    rule.Out ∷ rule.Out ∷ rule.In ∷ rule.Rep ∷ rule.Atst ∷ rule.Atre ∷ rule.Atfail ∷ rule.Atok ∷ rule.Ardok ∷
    rule.Ardf ∷ rule.Awr ∷ rule.Aoi ∷ rule.Aof ∷ rule.Aoe ∷ []) n rule.Out

rule_back : (r : Rule) → rule_at (number_of_rule r) ≡ r
unfolding number_of_rule rule_at
rule_back rule.Out = refl
rule_back rule.In = refl
rule_back rule.Rep = refl
rule_back rule.Atst = refl
rule_back rule.Atre = refl
rule_back rule.Atfail = refl
rule_back rule.Atok = refl
rule_back rule.Ardok = refl
rule_back rule.Ardf = refl
rule_back rule.Awr = refl
rule_back rule.Aoi = refl
rule_back rule.Aof = refl
rule_back rule.Aoe = refl

pub rules_differ : (r q : Rule) → number_of_rule r ≡ number_of_rule q → r ≡ q
rules_differ r q e = sym (rule_back r) ∙ ap rule_at e ∙ rule_back q
