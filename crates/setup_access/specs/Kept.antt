-- What a checker keeps of a setting, as the setting that definitions speak of.
use Rattle.access_types.specs.Sites.{AccessMap}
use Rattle.setup_access.specs.Setting as spec
use Rattle.setup_access.specs.declared.setting.Setting.{Setting}

-- what the code keeps of a setting, with the accesses that tickets name
abbrev pub setting_with : Setting → AccessMap → spec.Setting
setting_with kept sites = record { task = kept.task; rules = kept.rules; cells = kept.cells.items; sites = sites }
