-- The reply that C gives by its bytes meets its contract.
-- Assumes nothing.
use Rattle.ruonfidd.proofs.Exports.{reply_short, reply_enough}
use Rattle.ruonfidd.proofs.reply_from.Goals as goal

pub returns-then-tells_short : goal.returns-then-tells_short
returns-then-tells_short c =
    reply_short _ _ c.args.tray c.args.by c.if-moved-eq0.false c.tells_short.result c.tells_short.ensures c.if-tells_short.true

pub returns-else-tells_short : goal.returns-else-tells_short
returns-else-tells_short c =
    reply_enough _ _ c.args.tray c.args.by c.if-moved-eq0.false c.tells_short.result c.tells_short.ensures c.if-tells_short.false
